-- One byte more is one step of FNV-1a. Assumes nothing.
use Rattle.std.proofs.Common.{rules}
use Rattle.blocks.specs.Fnv.{fnv_fold}
use Rattle.blocks.proofs.fnv.Check.byte.Goals as goal

pub returns : goal.returns
unfolding fnv_fold
returns c = search rules
