-- What the tests of lists say of the places of a list. Assumes nothing.
use mathlib.Core.Path.{◌≡◌, sym}
use mathlib.Core.Logic.{⊎_elim}
use mathlib.Core.Bool.{Bool, true, false, not}
use mathlib.Core.List.{List, [], ◌∷◌}
use Rattle.std.specs.Prelude.{Some as some}
use Prim.Native.Nat.{ℕ, zero, suc, ◌<◌}
use native.Mathlib.Omega.{arith}
use lib.Dec.{T, eqb}
use lib.ListN.{length, get_or}
use Rattle.list_meaning.specs.Order.{any_of, all_of, first_of, distinct}
use Rattle.base.proofs.Tests.{T?, and_T, T_and, or-T, T-or₁, T-or₂, T_true, T-eqb, not-false}
use Rattle.base.proofs.SearchLaws.{some-none}

module _ (t : ℕ → Bool) where
  -- ---- some place, each place

  pub any_place : (l : List ℕ) → T (any_of t l) → (i : ℕ) × (i < length l) × T (t (get_or l i 0))
  unfolding any_of
  any_place [] h = absurd h
  any_place (k ∷ l) h =
      ⊎_elim (λ a. (zero, omega arith, a)) (λ a. let p = any_place l a in (suc p.0, omega (arith, p.1), p.2))
      (or-T (t k) (any_of t l) h)

  pub place-any : (l : List ℕ) (i : ℕ) → i < length l → T (t (get_or l i 0)) → T (any_of t l)
  unfolding any_of
  place-any [] i b h = absurd (omega arith)
  place-any (k ∷ l) zero b h = T-or₁ (t k) (any_of t l) h
  place-any (k ∷ l) (suc i) b h = T-or₂ (t k) (any_of t l) (place-any l i (omega arith) h)

  pub all-place : (l : List ℕ) → T (all_of t l) → (i : ℕ) → i < length l → T (t (get_or l i 0))
  unfolding all_of
  all-place [] h i b = absurd (omega arith)
  all-place (k ∷ l) h zero b = (and_T (t k) (all_of t l) h).0
  all-place (k ∷ l) h (suc i) b = all-place l (and_T (t k) (all_of t l) h).1 i (omega arith)

  pub place-all : (l : List ℕ) → ((i : ℕ) → i < length l → T (t (get_or l i 0))) → T (all_of t l)
  unfolding all_of
  place-all [] h = tt
  place-all (k ∷ l) h = T_and (t k) (all_of t l) (h zero (omega arith)) (place-all l (λ i b. h (suc i) (omega arith)))

  -- ---- the first place

  abbrev pub First : (l : List ℕ) (i : ℕ) → Type 0
  First l i = (i < length l) × T (t (get_or l i 0)) × ((j : ℕ) → j < i → T (t (get_or l j 0)) → ⊥)

  pub first-place : (l : List ℕ) (i : ℕ) → First l i → first_of t l ≡ some (get_or l i 0)
  unfolding first_of
  first-place [] i h = absurd (omega (arith, h.0))
  first-place (k ∷ l) zero h = rw (T_true (t k) h.1)
  first-place (k ∷ l) (suc i) h =
      rw (not-false (t k) (h.2 zero (omega arith))) (first-place l i (omega (arith, h.0), h.1, λ j b. h.2 (suc j) (omega arith)))

  pub place-first : (l : List ℕ) (k : ℕ) → first_of t l ≡ some k → (i : ℕ) × First l i × (get_or l i 0 ≡ k)
  unfolding first_of
  place-first [] k e = absurd (some-none (sym e))
  place-first (x ∷ l) k e = go (T? (t x)) (place-first l k)
    where
      later : (T (t x) → ⊥) → (i : ℕ) → ((j : ℕ) → j < i → T (t (get_or l j 0)) → ⊥) → (j : ℕ) → j < suc i → T (t (get_or (x ∷ l) j 0)) → ⊥
      later h i n zero b = h
      later h i n (suc j) b = n j (omega arith)

      go : Dec (T (t x)) → (first_of t l ≡ some k → (i : ℕ) × First l i × (get_or l i 0 ≡ k)) → (i : ℕ) × First (x ∷ l) i × (get_or (x ∷ l) i 0 ≡ k)
      go (yes h) rest = let q : some x ≡ some k = rw (T_true (t x) h) at e in (zero, (omega arith, h, λ j b. absurd (omega arith)), cc)
      go (no h) rest =
          let p = rest (rw (not-false (t x) h) at e) in
          (suc p.0, (omega (arith, p.1.0), p.1.1, later h p.0 p.1.2), p.2)

-- ---- no number twice

not_T : (b : Bool) → T (not b) → T b → ⊥
not_T true h t = h
not_T false h t = t

pub once-place : (l : List ℕ) → T (distinct l) → (i j : ℕ) → i < j → j < length l → get_or l i 0 ≡ get_or l j 0 → ⊥
unfolding distinct
once-place [] h i j a b e = omega arith
once-place (k ∷ l) h i zero a b e = omega arith
once-place (k ∷ l) h zero (suc j) a b e =
    not_T (any_of (eqb k) l) (and_T (not (any_of (eqb k) l)) (distinct l) h).0 (place-any (eqb k) l j (omega arith) (T-eqb e))
once-place (k ∷ l) h (suc i) (suc j) a b e =
    once-place l (and_T (not (any_of (eqb k) l)) (distinct l) h).1 i j (omega arith) (omega arith) e
