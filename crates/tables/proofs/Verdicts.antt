-- Faults found one after the other, and the verdict on them. Assumes nothing.
use mathlib.Core.Path.{◌≡◌, refl, sym, ap, ◌∙◌}
use Rattle.std.specs.Prelude.{Option, None as none, Some as some}
use Rattle.std.specs.Prelude.{Result, Ok, Err}
use Prim.Native.Nat.{ℕ}
use native.Mathlib.Omega.{arith}
use Rattle.base.specs.Search.{or_else}
use Rattle.base.proofs.Options.{past, stop}
use Rattle.tables.specs.Refusals.{verdict_of}
use Rattle.tables.specs.declared.Refusal.{Refusal}

-- what a verdict says of the fault
pub passed : (a : Option Refusal) → verdict_of a ≡ Ok tt → a ≡ none
passed none e = refl
passed (some r) e = let z : ◌≡◌ {A = ℕ} 0 1 = cc in absurd (omega arith)

pub refused : (a : Option Refusal) (r : Refusal) → verdict_of a ≡ Err r → a ≡ some r
refused none r e = let z : ◌≡◌ {A = ℕ} 0 1 = cc in absurd (omega arith)
refused (some s) r e = let i : s ≡ r = cc in rw i

-- a stage of checks that refuses, and one that passes
pub refuses : (a b : Option Refusal) (r : Refusal) → verdict_of a ≡ Err r → Err r ≡ verdict_of (or_else a b)
refuses a b r e = sym (ap verdict_of (stop a b (refused a r e)))

pub passes : (a b : Option Refusal) → verdict_of a ≡ Ok tt → verdict_of b ≡ verdict_of (or_else a b)
passes a b e = sym (ap verdict_of (past a b (passed a e)))

-- the same of a chain of checks that stops at the first refusal: r is what this check answers, s what the whole does
pub refused-by : (a b : Option Refusal) (r s : Result Unit Refusal) (x : Refusal) → r ≡ verdict_of a → r ≡ Err x → s ≡ Err x → s ≡ verdict_of (or_else a b)
refused-by a b r s x e i j = j ∙ refuses a b x (sym e ∙ i)

pub passed-by : (a b : Option Refusal) (r s : Result Unit Refusal) → r ≡ verdict_of a → r ≡ Ok tt → s ≡ verdict_of b → s ≡ verdict_of (or_else a b)
passed-by a b r s e i j = j ∙ passes a b (sym e ∙ i)
