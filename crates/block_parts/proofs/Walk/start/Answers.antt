-- The first row is at the first place of the first block, whatever the capacity. Assumes nothing.
use native.Mathlib.Nat.{zero-div, zero-mod}
use Rattle.block_parts.proofs.Walk.start.Goals as goal

pub returns : goal.returns
returns c capacity = rw (zero-div, zero-mod)
