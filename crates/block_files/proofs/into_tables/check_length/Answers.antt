-- The tests on the length are those of the definition. Assumes nothing.
use Rattle.blocks.proofs.Order.{length-tests}
use Rattle.block_files.proofs.into_tables.check_length.Goals as goal

pub returns : goal.returns
returns c = rw length-tests c.refuse_if.ensures
