use Prim.Native.Nat.{◌≤◌}
use Rattle.certificates.proofs.OutsideWalk.{Kept}
use Rattle.certificates.proofs.outside_all.Given as goal

abbrev pub invariant-loop-turn : goal.invariant-loop-turn
invariant-loop-turn l = (l.turn ≤ 256) × Kept l.closure l.fn.files l.fn.boxes l.turn l.left l.rest
