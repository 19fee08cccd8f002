use Prim.Native.Nat.{◌≤◌}
use Rattle.containment.specs.Steps.{selves, Turns}
use Rattle.containment.proofs.closing.add_selves.Given as goal

abbrev pub invariant-loop-b : goal.invariant-loop-b
invariant-loop-b l = (l.b ≤ l.n) × Turns (λ f. selves f l.b) l.initial.closure l.closure
