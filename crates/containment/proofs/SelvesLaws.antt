-- Each box added to its own sets. Assumes nothing.
use mathlib.Core.Path.{◌≡◌, refl, sym, subst, ◌∙◌}
use mathlib.Core.Logic.{◌⊎◌, inl, inr, ⊎_elim}
use mathlib.Core.Bool.{Bool, ◌&&◌, ◌||◌}
use mathlib.Core.List.{List}
use Prim.Native.Nat.{ℕ, zero, suc, ◌+◌, ◌<◌}
use native.Mathlib.Numerals.{add-one}
use native.Mathlib.Omega.{arith}
use lib.Dec.{T, eqb, eqb→eq}
use Rattle.base.proofs.Tests.{T-same, T-eqb, T_and, and_T, or-T, T-or₁, T-or₂}
use Rattle.base.proofs.SearchLaws.{below_suc}
use Rattle.boxsets.specs.Sets.{Added}
use Rattle.containment.specs.Steps.{Turns, selves}
use Rattle.containment.proofs.ClosingLaws.{pair-added}

-- ---- the loop

pub selves-none : (t : List ℕ) → Turns (λ f. selves f 0) t t
unfolding selves
selves-none t = record { len = refl; says = λ f s. s }

pub selves-more : (k : ℕ) (t u v w : List ℕ) → k < 256 → Turns (λ f. selves f k) t u → Added u k k v → Added v (256 + k) k w
    → Turns (λ f. selves f (k + 1)) t w
unfolding selves
selves-more k t u v w l h p q = record {
  len = q.len ∙ p.len ∙ h.len;
  says = λ f s. rw add-one (pair-added (selves f k) k k u v w l l p q (h.says f s));
}

-- ---- what it comes to

selves-cases : (f : ℕ → ℕ → Bool) (n a b : ℕ) → T (selves f n a b) → (a ≡ b) ⊎ T (f a b)
unfolding selves
selves-cases f zero a b t = inr t
selves-cases f (suc n) a b t =
    ⊎_elim (selves-cases f n a b)
    (λ e. let p = and_T (eqb a n) (eqb b n) e in inl (eqb→eq a n p.0 ∙ sym (eqb→eq b n p.1)))
    (or-T (selves f n a b) (eqb a n && eqb b n) t)

selves-old : (f : ℕ → ℕ → Bool) (n a b : ℕ) → T (f a b) → T (selves f n a b)
unfolding selves
selves-old f zero a b t = t
selves-old f (suc n) a b t = T-or₁ (selves f n a b) (eqb a n && eqb b n) (selves-old f n a b t)

selves-own : (f : ℕ → ℕ → Bool) (n a : ℕ) → a < n → T (selves f n a a)
unfolding selves
selves-own f zero a l = absurd (omega arith)
selves-own f (suc n) a l =
    ⊎_elim
    (λ e. T-or₂ (selves f n a a) (eqb a n && eqb a n) (T_and (eqb a n) (eqb a n) (T-eqb e) (T-eqb e)))
    (λ h. T-or₁ (selves f n a a) (eqb a n && eqb a n) (selves-own f n a h))
    (below_suc l)

-- among n boxes
pub selves-all : (f : ℕ → ℕ → Bool) (n a b : ℕ) → (a < n) ⊎ (b < n) → selves f n a b ≡ (eqb a b || f a b)
selves-all f n a b l =
    T-same (selves f n a b) (eqb a b || f a b)
    (λ t. ⊎_elim (λ e. T-or₁ (eqb a b) (f a b) (T-eqb e)) (T-or₂ (eqb a b) (f a b)) (selves-cases f n a b t))
    (λ t. ⊎_elim (λ e. own (eqb→eq a b e)) (selves-old f n a b) (or-T (eqb a b) (f a b) t))
  where
    own : a ≡ b → T (selves f n a b)
    own e = subst (λ (z : ℕ). T (selves f n a z)) e (selves-own f n a (⊎_elim (λ h. h) (λ h. omega arith) l))
