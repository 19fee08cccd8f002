-- A test that holds at some number below n. Assumes nothing.
use mathlib.Core.Path.{◌≡◌, refl, subst}
use mathlib.Core.Logic.{◌⊎◌, ⊎_elim}
use mathlib.Core.Bool.{Bool, true, false, not, ◌&&◌, ◌||◌}
use Rattle.std.specs.Prelude.{None as none}
use Prim.Native.Nat.{ℕ, zero, suc, ◌+◌, ◌<◌}
use native.Mathlib.Omega.{arith}
use native.Mathlib.Numerals.{add-one}
use lib.Dec.{T, eqb, eqb→eq, eqb_refl}
use Rattle.base.specs.Search.{lowest, every}
use Rattle.base.specs.Steps.{any_below}
use Rattle.base.proofs.Tests.{or-T, T-or₁, T-or₂, and_T, T_and, T-same, not-false}
use Rattle.base.proofs.SearchLaws.{below_suc, lowest-none}

-- a loop that counts up: before it, and one number more
pub any-zero : (p : ℕ → Bool) → any_below p 0 ≡ false
unfolding any_below
any-zero p = refl

pub any-more : (p : ℕ → Bool) (n : ℕ) → any_below p (n + 1) ≡ (any_below p n || p n)
unfolding any_below
any-more p n = rw add-one

pub any_found : (p : ℕ → Bool) (n : ℕ) → T (any_below p n) → (k : ℕ) × (k < n) × T (p k)
unfolding any_below
any_found p zero t = absurd t
any_found p (suc n) t = go (or-T (any_below p n) (p n) t) (any_found p n)
  where
    go : T (any_below p n) ⊎ T (p n) → (T (any_below p n) → (k : ℕ) × (k < n) × T (p k)) → (k : ℕ) × (k < suc n) × T (p k)
    go c ih = ⊎_elim (λ a. let r = ih a in (r.0, omega (arith, r.1), r.2)) (λ b. (n, omega arith, b)) c

pub any-is : (p : ℕ → Bool) (n k : ℕ) → k < n → T (p k) → T (any_below p n)
unfolding any_below
any-is p zero k l t = absurd (omega arith)
any-is p (suc n) k l t =
    ⊎_elim
    (λ e. T-or₂ (any_below p n) (p n) (subst (λ (z : ℕ). T (p z)) e t))
    (λ h. T-or₁ (any_below p n) (p n) (any-is p n k h t))
    (below_suc l)

pub any_none : (p : ℕ → Bool) (n : ℕ) → lowest p n ≡ none → any_below p n ≡ false
any_none p n e = not-false (any_below p n) (λ t. let r = any_found p n t in lowest-none p n e r.0 r.1 r.2)

-- ---- one test by others

-- two tests that agree at each number below n
pub any_same : (p q : ℕ → Bool) (n : ℕ) → ((k : ℕ) → k < n → p k ≡ q k) → any_below p n ≡ any_below q n
unfolding any_below
any_same p q zero e = refl
any_same p q (suc n) e = rw (any_same p q n (λ k l. e k (omega arith)), e n (omega arith))

pub any-within : (p q : ℕ → Bool) (n : ℕ) → ((k : ℕ) → k < n → T (p k) → T (q k)) → T (any_below p n) → T (any_below q n)
any-within p q n h t = let r = any_found p n t in any-is q n r.0 r.1 (h r.0 r.1 r.2)

pub any-or : (p q : ℕ → Bool) (n : ℕ) → any_below (λ k. p k || q k) n ≡ (any_below p n || any_below q n)
unfolding any_below
any-or p q zero = refl
any-or p q (suc n) = rw (any-or p q n) (four (any_below p n) (any_below q n) (p n) (q n))
  where
    four : (a b c d : Bool) → ((a || b) || (c || d)) ≡ ((a || c) || (b || d))
    four true b c d = refl
    four false true true d = refl
    four false true false d = refl
    four false false c d = refl

pub any-and : (p : ℕ → Bool) (b : Bool) (n : ℕ) → any_below (λ k. p k && b) n ≡ (any_below p n && b)
unfolding any_below
any-and p b zero = refl
any-and p b (suc n) = rw (any-and p b n) (both (any_below p n) (p n) b)
  where
    both : (a c b : Bool) → ((a && b) || (c && b)) ≡ ((a || c) && b)
    both true true true = refl
    both true true false = refl
    both true false true = refl
    both true false false = refl
    both false c b = refl

pub not-any : (p : ℕ → Bool) (n : ℕ) → every (λ k. not (p k)) n ≡ not (any_below p n)
unfolding any_below every
not-any p zero = refl
not-any p (suc n) = rw (not-any p n) (neither (any_below p n) (p n))
  where
    neither : (a b : Bool) → (not a && not b) ≡ not (a || b)
    neither true b = refl
    neither false b = refl

-- at some number g, by way of some k whose h is g
pub any-image : (h : ℕ → ℕ) (q : ℕ → ℕ → Bool) (c n : ℕ) → ((k : ℕ) → k < c → h k < n)
    → any_below (λ g. any_below (λ k. eqb (h k) g && q k g) c) n ≡ any_below (λ k. q k (h k)) c
any-image h q c n there =
    T-same (any_below (λ g. any_below (λ k. eqb (h k) g && q k g) c) n) (any_below (λ k. q k (h k)) c)
    (λ t.
    let r = any_found (λ g. any_below (λ k. eqb (h k) g && q k g) c) n t in
    let s = any_found (λ k. eqb (h k) r.0 && q k r.0) c r.2 in
    let b = and_T (eqb (h s.0) r.0) (q s.0 r.0) s.2 in
    any-is (λ k. q k (h k)) c s.0 s.1 (rw (eqb→eq (h s.0) r.0 b.0) b.1))
    (λ t.
    let r = any_found (λ k. q k (h k)) c t in
    let k = r.0 in
    any-is (λ g. any_below (λ k. eqb (h k) g && q k g) c) n (h k) (there k r.1)
    (any-is (λ j. eqb (h j) (h k) && q j (h k)) c k r.1 (T_and (eqb (h k) (h k)) (q k (h k)) (eqb_refl (h k)) r.2)))

-- at k, or at a number that y has, where x has k and those
pub any-take : (x y q : ℕ → Bool) (k n : ℕ) → k < n → ((j : ℕ) → x j ≡ (eqb j k || y j))
    → any_below (λ j. x j && q j) n ≡ (q k || any_below (λ j. y j && q j) n)
any-take x y q k n l e =
    T-same (any_below (λ j. x j && q j) n) (q k || any_below (λ j. y j && q j) n)
    (λ t.
    let r = any_found (λ j. x j && q j) n t in
    let b = and_T (x r.0) (q r.0) r.2 in
    ⊎_elim
    (λ i. T-or₁ (q k) (any_below (λ j. y j && q j) n) (subst (λ (z : ℕ). T (q z)) (eqb→eq r.0 k i) b.1))
    (λ i. T-or₂ (q k) (any_below (λ j. y j && q j) n) (any-is (λ j. y j && q j) n r.0 r.1 (T_and (y r.0) (q r.0) i b.1)))
    (or-T (eqb r.0 k) (y r.0) (subst T (e r.0) b.0)))
    (λ t.
    ⊎_elim
    (λ i. any-is (λ j. x j && q j) n k l (T_and (x k) (q k) (rw (e k) (T-or₁ (eqb k k) (y k) (eqb_refl k))) i))
    (any-within (λ j. y j && q j) (λ j. x j && q j) n
    (λ j h s. let b = and_T (y j) (q j) s in T_and (x j) (q j) (rw (e j) (T-or₂ (eqb j k) (y j) b.0)) b.1))
    (or-T (q k) (any_below (λ j. y j && q j) n) t))
