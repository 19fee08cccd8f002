use Prim.Native.Nat.{◌*◌, ◌≤◌}
use lib.ListN.{length}
use Rattle.scratch.proofs.SpreadLaws.{Spread}
use Rattle.scratch.proofs.filling.spread.Given as goal

abbrev pub invariant-loop-a : goal.invariant-loop-a
invariant-loop-a l = (l.a ≤ l.n) × (l.n * l.n ≤ length l.scratch) × Spread l.n l.a l.closure l.initial.scratch l.scratch
