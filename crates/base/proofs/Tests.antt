-- Reading and making tests `T b`. Assumes nothing.
use mathlib.Core.Path.{◌≡◌, refl, sym, subst}
use mathlib.Core.Logic.{◌⊎◌, inl, inr}
use mathlib.Core.Bool.{Bool, true, false, ◌&&◌, ◌||◌}
use Prim.Native.Nat.{ℕ}
use lib.Dec.{T, eqb, eqb_refl}

pub T? : (b : Bool) → Dec (T b)
T? true = yes tt
T? false = no (λ t. t)

pub or-T : (a b : Bool) → T (a || b) → T a ⊎ T b
or-T true b t = inl tt
or-T false b t = inr t

pub T-or₁ : (a b : Bool) → T a → T (a || b)
T-or₁ true b t = tt
T-or₁ false b t = absurd t

pub T-or₂ : (a b : Bool) → T b → T (a || b)
T-or₂ true b t = tt
T-or₂ false b t = t

pub and_T : (a b : Bool) → T (a && b) → T a × T b
and_T true b t = (tt, t)
and_T false b t = absurd t

pub T_and : (a b : Bool) → T a → T b → T (a && b)
T_and true b t u = u
T_and false b t u = absurd t

pub T-eqb : {m n : ℕ} → m ≡ n → T (eqb m n)
T-eqb {m} e = subst (λ (k : ℕ). T (eqb m k)) e (eqb_refl m)

-- two tests that imply each other are the same
pub T-same : (a b : Bool) → (T a → T b) → (T b → T a) → a ≡ b
T-same true true f g = refl
T-same true false f g = absurd (f tt)
T-same false true f g = absurd (g tt)
T-same false false f g = refl

-- a test and the value it has
pub T_true : (b : Bool) → T b → b ≡ true
T_true true t = refl
T_true false t = absurd t

pub true-T : (b : Bool) → b ≡ true → T b
true-T b e = subst T (sym e) tt

pub not-false : (b : Bool) → (T b → ⊥) → b ≡ false
not-false true n = absurd (n tt)
not-false false n = refl

pub false-not : (b : Bool) → b ≡ false → T b → ⊥
false-not b e t = subst T e t
