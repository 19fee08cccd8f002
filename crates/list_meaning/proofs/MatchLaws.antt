-- First-match lists over any n pairs: R p k says whether arrow k reaches pair p, Right p k whether it gives p the right answer.
-- Assumes nothing.
use mathlib.Core.Path.{◌≡◌, sym, subst, ◌∙◌}
use mathlib.Core.Logic.{◌⊎◌, inl, inr, ⊎_elim}
use mathlib.Core.Bool.{Bool}
use mathlib.Core.List.{List, [], ◌∷◌, ◌++◌}
use Rattle.std.specs.Prelude.{Some as some}
use Prim.Native.Nat.{ℕ, ◌<◌}
use lib.Dec.{T}
use Rattle.list_meaning.specs.Order.{any_of, all_of, first_of}
use Rattle.base.proofs.Tests.{T?, or-T, and_T, T-or₁, T-or₂, T_true, not-false}
use Rattle.base.proofs.SearchLaws.{some-none}

-- ---- the first of a list with one more in front, and of one with one more at the end

first_of-hit : (t : ℕ → Bool) (k : ℕ) (l : List ℕ) → T (t k) → first_of t (k ∷ l) ≡ some k
unfolding first_of
first_of-hit t k l h = rw (T_true (t k) h)

first_of-miss : (t : ℕ → Bool) (k : ℕ) (l : List ℕ) → (T (t k) → ⊥) → first_of t (k ∷ l) ≡ first_of t l
unfolding first_of
first_of-miss t k l h = rw (not-false (t k) h)

first_of-none : (t : ℕ → Bool) (j : ℕ) → first_of t [] ≡ some j → ⊥
unfolding first_of
first_of-none t j e = some-none (sym e)

first_of-snoc : (t : ℕ → Bool) (l : List ℕ) (k j : ℕ) → first_of t (l ++ (k ∷ [])) ≡ some j
    → (first_of t l ≡ some j) ⊎ ((k ≡ j) × T (t k) × (T (any_of t l) → ⊥))
unfolding any_of
first_of-snoc t [] k j e = go (T? (t k))
  where
    go : Dec (T (t k)) → (first_of t [] ≡ some j) ⊎ ((k ≡ j) × T (t k) × (T (any_of t []) → ⊥))
    go (yes h) = let i = first_of-hit t k [] h in inr ((cc), h, λ z. z)
    go (no h) = inl (sym (first_of-miss t k [] h) ∙ e)
first_of-snoc t (i ∷ l) k j e = go (T? (t i)) (first_of-snoc t l k j)
  where
    go : Dec (T (t i)) → (first_of t (l ++ (k ∷ [])) ≡ some j → (first_of t l ≡ some j) ⊎ ((k ≡ j) × T (t k) × (T (any_of t l) → ⊥)))
        → (first_of t (i ∷ l) ≡ some j) ⊎ ((k ≡ j) × T (t k) × (T (any_of t (i ∷ l)) → ⊥))
    go (yes h) ih = inl (first_of-hit t i l h ∙ sym (first_of-hit t i (l ++ (k ∷ [])) h) ∙ e)
    go (no h) ih =
        ⊎_elim (λ g. inl (first_of-miss t i l h ∙ g)) (λ r. inr (r.0, r.1, λ z. ⊎_elim h r.2 (or-T (t i) (any_of t l) z)))
        (ih (sym (first_of-miss t i (l ++ (k ∷ [])) h) ∙ e))

first_of-last : (t : ℕ → Bool) (l : List ℕ) (k : ℕ) → (T (any_of t l) → ⊥) → T (t k) → first_of t (l ++ (k ∷ [])) ≡ some k
unfolding any_of
first_of-last t [] k n h = first_of-hit t k [] h
first_of-last t (i ∷ l) k n h =
    first_of-miss t i (l ++ (k ∷ [])) (λ r. n (T-or₁ (t i) (any_of t l) r)) ∙ first_of-last t l k (λ r. n (T-or₂ (t i) (any_of t l) r)) h

module _ (n : ℕ) (R Right : ℕ → ℕ → Bool) where
  -- each pair that the list reaches gets the right answer from the first arrow in it that reaches the pair
  abbrev pub Honest : List ℕ → Type 0
  Honest l = (p k : ℕ) → p < n → first_of (R p) l ≡ some k → T (Right p k)

  -- arrow k's pairs that l does not reach are all right
  abbrev pub Fits : List ℕ → ℕ → Type 0
  Fits l k = (p : ℕ) → p < n → T (R p k) → (T (any_of (R p) l) → ⊥) → T (Right p k)

  pub honest-none : Honest []
  honest-none p k l e = absurd (first_of-none (R p) k e)

  -- an arrow that fits keeps a list honest
  pub honest-snoc : (l : List ℕ) (k : ℕ) → Honest l → Fits l k → Honest (l ++ (k ∷ []))
  honest-snoc l k h s p j b e =
      ⊎_elim (h p j b) (λ r. subst (λ (i : ℕ). T (Right p i)) r.0 (s p b r.1 r.2)) (first_of-snoc (R p) l k j e)

  -- and only such an arrow does
  pub honest-fits : (l : List ℕ) (k : ℕ) → Honest (l ++ (k ∷ [])) → Fits l k
  honest-fits l k h p b r z = h p k b (first_of-last (R p) l k z r)

  -- ---- a list to which nothing can be added reaches all that any honest list reaches

  -- an own arrow that fits reaches nothing new
  abbrev pub Full : (ℕ → Bool) → List ℕ → Type 0
  Full own g = (k : ℕ) → T (own k) → Fits g k → (p : ℕ) → p < n → T (R p k) → T (any_of (R p) g)

  module _ (own : ℕ → Bool) (g : List ℕ) (full : Full own g) where
    -- by induction over a list that is right at all the pairs that g does not reach
    within : (l : List ℕ) → T (all_of own l) → ((p k : ℕ) → p < n → (T (any_of (R p) g) → ⊥) → first_of (R p) l ≡ some k → T (Right p k))
        → (p : ℕ) → p < n → T (any_of (R p) l) → T (any_of (R p) g)
    unfolding any_of all_of
    within [] o h p b t = absurd t
    within (k ∷ l) o h p b t = ⊎_elim (covered p b) (within l (and_T (own k) (all_of own l) o).1 later p b) (or-T (R p k) (any_of (R p) l) t)
      where
        covered : (q : ℕ) → q < n → T (R q k) → T (any_of (R q) g)
        covered = full k (and_T (own k) (all_of own l) o).0 (λ q c r z. h q k c z (first_of-hit (R q) k l r))

        later : (q j : ℕ) → q < n → (T (any_of (R q) g) → ⊥) → first_of (R q) l ≡ some j → T (Right q j)
        later q j c z e = h q j c z (first_of-miss (R q) k l (λ r. z (covered q c r)) ∙ e)

    pub maximal : (l : List ℕ) → T (all_of own l) → Honest l → (p : ℕ) → p < n → T (any_of (R p) l) → T (any_of (R p) g)
    maximal l o h = within l o (λ p k b z e. h p k b e)
