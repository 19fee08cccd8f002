use mathlib.Core.Path.{◌≡◌}
use Prim.Native.Nat.{ℕ, ◌-◌}
use Rattle.boxsets.specs.Members.{to_come}
use Rattle.boxsets.specs.Reach.{reaches, InReach}
use Rattle.boxsets.proofs.walk.MembersIterator.next.Given as goal

abbrev pub invariant-loop-rest : goal.invariant-loop-rest
invariant-loop-rest l = record { same : (k : ℕ) → reaches l.from l.rest k ≡ to_come l.self k; reach : InReach l.from l.rest }

abbrev pub decreases-loop-rest : goal.decreases-loop-rest
decreases-loop-rest l = 256 - l.from
