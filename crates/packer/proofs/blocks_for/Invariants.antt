use Prim.Native.Nat.{◌-◌}
use Rattle.packer.proofs.Taking.{Taken}
use Rattle.packer.proofs.blocks_for.Given as goal

abbrev pub invariant-loop-row : goal.invariant-loop-row
invariant-loop-row l = Taken l.capacity l.rows l.blocks l.row

abbrev pub decreases-loop-row : goal.decreases-loop-row
decreases-loop-row l = l.rows - l.row
