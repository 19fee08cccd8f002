-- The lowest number below n at which a test holds. Assumes nothing.
use mathlib.Core.Path.{◌≡◌, refl, ap}
use mathlib.Core.Bool.{Bool, true, false, cond}
use Prim.Native.Nat.{ℕ, zero, suc, ◌<◌, ◌≤◌}
use native.Mathlib.Omega.{arith}
use native.Mathlib.Nat.{le_of_suc-le-suc}
use lib.Dec.{T}
use Rattle.base.proofs.Tests.{T_true, true-T, not-false, false-not}
use Rattle.boxsets.specs.Sets.{least}

pub least-is : (p : ℕ → Bool) (n k : ℕ) → k < n → T (p k) → ((j : ℕ) → j < k → T (p j) → ⊥) → least p n ≡ k
unfolding least
least-is p zero k h t m = absurd (omega arith)
least-is p (suc n) zero h t m = rw (T_true (p 0) t)
least-is p (suc n) (suc k) h t m =
    rw (not-false (p 0) (m 0 (omega arith)))
    (ap suc (least-is (λ j. p (suc j)) n k (le_of_suc-le-suc h) t (λ j l. m (suc j) (omega arith))))

pub least-end : (p : ℕ → Bool) (n : ℕ) → ((j : ℕ) → j < n → T (p j) → ⊥) → least p n ≡ n
unfolding least
least-end p zero m = refl
least-end p (suc n) m = rw (not-false (p 0) (m 0 (omega arith))) (ap suc (least-end (λ j. p (suc j)) n (λ j l. m (suc j) (omega arith))))

-- the test holds there, and nowhere below
pub least-found : (p : ℕ → Bool) (n : ℕ) → (least p n < n → T (p (least p n))) × ((j : ℕ) → j < least p n → T (p j) → ⊥)
unfolding least
least-found p zero = (λ h. absurd (omega arith), λ j h t. absurd (omega arith))
least-found p (suc n) = go (p 0) refl (least-found (λ j. p (suc j)) n)
  where
    go : (b : Bool) → p 0 ≡ b → (least (λ j. p (suc j)) n < n → T (p (suc (least (λ j. p (suc j)) n)))) × ((j : ℕ) → j < least (λ j. p (suc j)) n → T (p (suc j)) → ⊥)
        → (cond b 0 (suc (least (λ j. p (suc j)) n)) < suc n → T (p (cond b 0 (suc (least (λ j. p (suc j)) n)))))
        × ((j : ℕ) → j < cond b 0 (suc (least (λ j. p (suc j)) n)) → T (p j) → ⊥)
    go true e ih = (λ h. true-T (p 0) e, λ j h t. absurd (omega arith))
    go false e ih = (λ h. ih.0 (le_of_suc-le-suc h), below)
      where
        below : (j : ℕ) → j < suc (least (λ j. p (suc j)) n) → T (p j) → ⊥
        below zero h t = false-not (p 0) e t
        below (suc j) h t = ih.1 j (le_of_suc-le-suc h) t

pub least-most : (p : ℕ → Bool) (n : ℕ) → least p n ≤ n
unfolding least
least-most p zero = omega arith
least-most p (suc n) = go (p 0) (least-most (λ k. p (suc k)) n)
  where
    go : (b : Bool) → least (λ k. p (suc k)) n ≤ n → cond b 0 (suc (least (λ k. p (suc k)) n)) ≤ suc n
    go true h = omega arith
    go false h = omega arith
