use mathlib.Core.Bool.{Bool}
use mathlib.Core.List.{List}
use Prim.Native.Nat.{ℕ, ◌≤◌}
use Rattle.base.proofs.SearchLaws.{Searched}
use Rattle.tables.specs.declared.Refusal.TheVariants.{InItself}
use Rattle.boxsets.specs.Sets.{has}
use Rattle.containment.proofs.check_loops.Given as goal

-- set b has b
abbrev pub own : List ℕ → ℕ → Bool
own closure b = has closure b b

abbrev pub invariant-loop-b : goal.invariant-loop-b
invariant-loop-b l = Searched (own l.closure) InItself l.b × (l.b ≤ l.n)
