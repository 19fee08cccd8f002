-- Four bytes make a number of 32 bits. Assumes nothing.
use Rattle.std.proofs.Common.{arith}
use Rattle.blocks.specs.Blocks.{number16}
use Rattle.blocks.specs.Steps.{number32}
use Rattle.blocks.proofs.block.Block.stored_check.Goals as goal

pub returns : goal.returns
unfolding number16 number32
returns c = omega (arith, c.from_le_bytes.ensures)
