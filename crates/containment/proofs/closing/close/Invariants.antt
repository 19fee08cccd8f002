use Prim.Native.Nat.{◌≤◌}
use Rattle.containment.specs.Steps.{rounds, Turns}
use Rattle.containment.proofs.closing.close.Given as goal

abbrev pub invariant-loop-k : goal.invariant-loop-k
invariant-loop-k l = (l.k ≤ l.n) × Turns (λ f. rounds f l.k) l.initial.closure l.closure
