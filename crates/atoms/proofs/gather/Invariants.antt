use Prim.Native.Nat.{◌≤◌}
use lib.ListN.{length}
use Rattle.atoms.specs.Steps.{unmarked}
use Rattle.base.proofs.BufferLaws.{Selected}
use Rattle.atoms.proofs.gather.Given as goal

abbrev pub invariant-loop-b : goal.invariant-loop-b
invariant-loop-b l = (l.b ≤ length l.boxes) × Selected (unmarked l.boxes l.side l.marks) l.initial.out l.b l.count l.out
