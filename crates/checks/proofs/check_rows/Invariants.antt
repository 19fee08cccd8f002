use mathlib.Core.Bool.{false}
use Prim.Native.Nat.{◌<◌, ◌≤◌, ℕ}
use Rattle.checks.proofs.check_rows.Given as goal

-- no row before k fails
abbrev pub invariant-loop-k : goal.invariant-loop-k
invariant-loop-k g l = (l.k ≤ l.n) × ((j : ℕ) → j < l.k → g.F.Fn.post l.fails (j, tt) false)
