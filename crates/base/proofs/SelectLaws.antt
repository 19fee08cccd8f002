-- The numbers at which a test holds: `select` has each of them once, rising; and the lowest at which a further test holds.
-- Assumes nothing.
use mathlib.Core.Path.{◌≡◌, refl, sym, ap, subst, ◌∙◌}
use mathlib.Core.Logic.{⊎_elim}
use mathlib.Core.Bool.{Bool, true, false, cond}
use mathlib.Core.List.{List, [], ◌∷◌, ◌++◌}
use Rattle.std.specs.Prelude.{None as none, Some as some}
use Prim.Native.Nat.{ℕ, zero, suc, ◌+◌, ◌<◌, ◌≤◌}
use native.Mathlib.Omega.{arith}
use native.Mathlib.Numerals.{add-one}
use lib.Dec.{T}
use lib.ListN.{length, get_or, length-append, get_or-append}
use lib.Seq.{get_or-append_seam}
use Rattle.base.specs.Search.{given, lowest, select}
use Rattle.base.proofs.Tests.{true-T, false-not, not-false, T_true}
use Rattle.base.proofs.SearchLaws.{below_suc, first-is, first-nothing, given-true, given-false}

-- one element at the end of a list
snoc-length : (xs : List ℕ) (y : ℕ) → length (xs ++ (y ∷ [])) ≡ suc (length xs)
snoc-length xs y = length-append xs (y ∷ []) ∙ add-one (length xs)

snoc-at : (xs : List ℕ) (y i : ℕ) → i < length xs → get_or (xs ++ (y ∷ [])) i 0 ≡ get_or xs i 0
snoc-at xs y i h = get_or-append xs (y ∷ []) 0 i h

snoc-last : (xs : List ℕ) (y i : ℕ) → i ≡ length xs → get_or (xs ++ (y ∷ [])) i 0 ≡ y
snoc-last xs y i e = rw e (get_or-append_seam xs y [] 0)

module _ (p : ℕ → Bool) where
  -- each is a number below n at which the test holds
  abbrev pub Found : ℕ → List ℕ → ℕ → Type 0
  Found n xs i = (get_or xs i 0 < n) × T (p (get_or xs i 0))

  pub select-found : (n i : ℕ) → i < length (select p n) → Found n (select p n) i
  unfolding select
  select-found zero i h = absurd (omega arith)
  select-found (suc n) i h = go (p n) refl h (select-found n i)
    where
      go : (b : Bool) → p n ≡ b → i < length (cond b (select p n ++ (n ∷ [])) (select p n))
          → (i < length (select p n) → Found n (select p n) i)
          → Found (suc n) (cond b (select p n ++ (n ∷ [])) (select p n)) i
      go false e h ih = let f = ih h in (omega (arith, f.0), f.1)
      go true e h ih =
          ⊎_elim
          (λ l. rw (snoc-last (select p n) n i l) (omega arith, true-T (p n) e))
          (λ l. let f = ih l in rw (snoc-at (select p n) n i l) (omega (arith, f.0), f.1))
          (below_suc (rw snoc-length at h))

  -- and they rise
  pub select-rising : (n i j : ℕ) → i < j → j < length (select p n) → get_or (select p n) i 0 < get_or (select p n) j 0
  unfolding select
  select-rising zero i j l h = absurd (omega arith)
  select-rising (suc n) i j l h = go (p n) h (select-rising n i j l)
    where
      go : (b : Bool) → j < length (cond b (select p n ++ (n ∷ [])) (select p n))
          → (j < length (select p n) → get_or (select p n) i 0 < get_or (select p n) j 0)
          → get_or (cond b (select p n ++ (n ∷ [])) (select p n)) i 0 < get_or (cond b (select p n ++ (n ∷ [])) (select p n)) j 0
      go false h ih = ih h
      go true h ih =
          ⊎_elim
          (λ e.
          let k : i < length (select p n) = omega arith in
          rw (snoc-last (select p n) n j e, snoc-at (select p n) n i k) (select-found n i k).0)
          (λ k. rw (snoc-at (select p n) n j k, snoc-at (select p n) n i (omega arith)) (ih k))
          (below_suc (rw snoc-length at h))

  -- and every such number is there
  abbrev pub Has : List ℕ → ℕ → Type 0
  Has xs k = (i : ℕ) × (i < length xs) × (get_or xs i 0 ≡ k)

  pub select_has : (n k : ℕ) → k < n → T (p k) → Has (select p n) k
  unfolding select
  select_has zero k h t = absurd (omega arith)
  select_has (suc n) k h t = go (p n) refl (select_has n k)
    where
      go : (b : Bool) → p n ≡ b → (k < n → T (p k) → Has (select p n) k) → Has (cond b (select p n ++ (n ∷ [])) (select p n)) k
      go false e ih = ⊎_elim (λ i. absurd (false-not (p n) e (subst (λ (z : ℕ). T (p z)) i t))) (λ l. ih l t) (below_suc h)
      go true e ih =
          ⊎_elim
          (λ (l : k ≡ n). (length (select p n), rw snoc-length (omega arith), snoc-last (select p n) n (length (select p n)) refl ∙ sym l))
          (λ l. let f = ih l t in (f.0, rw snoc-length (omega (arith, f.1)), snoc-at (select p n) n f.0 f.1 ∙ f.2))
          (below_suc h)

  -- a smaller number stands before
  pub select-before : (n i j : ℕ) → i < length (select p n) → j < length (select p n)
      → get_or (select p n) i 0 < get_or (select p n) j 0 → i < j
  select-before n i j hi hj l =
      let back : ¬ (j < i) = λ k. let r = select-rising n j i k hi in absurd (omega arith) in
      let same : ¬ (i ≡ j) = λ e. let r = ap (λ (z : ℕ). get_or (select p n) z 0) e in absurd (omega arith) in
      omega arith

  -- the same number stands at one place
  pub select-same : (n i j : ℕ) → i < length (select p n) → j < length (select p n)
      → get_or (select p n) i 0 ≡ get_or (select p n) j 0 → i ≡ j
  select-same n i j hi hj e =
      let back : ¬ (j < i) = λ k. let r = select-rising n j i k hi in absurd (omega arith) in
      let on : ¬ (i < j) = λ k. let r = select-rising n i j k hj in absurd (omega arith) in
      omega arith

module _ (p q : ℕ → Bool) where
  -- tests that agree select the same numbers
  pub select-alike : (n : ℕ) → ((k : ℕ) → k < n → p k ≡ q k) → select p n ≡ select q n
  unfolding select
  select-alike zero h = refl
  select-alike (suc n) h = rw (h n (omega arith), select-alike n (λ k l. h k (omega arith)))

  -- a test that holds at fewer numbers selects fewer
  pub select-within : (n : ℕ) → ((j : ℕ) → j < n → T (p j) → T (q j)) → length (select p n) ≤ length (select q n)
  unfolding select
  select-within zero h = omega arith
  select-within (suc n) h = go (p n) refl (q n) refl (select-within n (λ j l. h j (omega arith)))
    where
      go : (b : Bool) → p n ≡ b → (c : Bool) → q n ≡ c → length (select p n) ≤ length (select q n)
          → length (cond b (select p n ++ (n ∷ [])) (select p n)) ≤ length (cond c (select q n ++ (n ∷ [])) (select q n))
      go true e true i g = omega (arith, length-append (select p n) (n ∷ []), length-append (select q n) (n ∷ []))
      go true e false i g = absurd (false-not (q n) i (h n (omega arith) (true-T (p n) e)))
      go false e true i g = omega (arith, length-append (select q n) (n ∷ []))
      go false e false i g = g

  pub select-fewer : (n : ℕ) → ((j : ℕ) → j < n → T (p j) → T (q j)) → (k : ℕ) → k < n → (T (p k) → ⊥) → T (q k)
      → length (select p n) < length (select q n)
  unfolding select
  select-fewer zero h k l out in' = absurd (omega arith)
  select-fewer (suc n) h k l out in' =
      ⊎_elim
      (λ e.
      rw (not-false (p n) (subst (λ (i : ℕ). T (p i) → ⊥) e out), T_true (q n) (subst (λ (i : ℕ). T (q i)) e in'))
      (omega (arith, length-append (select q n) (n ∷ []), select-within n (λ j l. h j (omega arith)))))
      (λ l'. go (p n) refl (q n) refl (select-fewer n (λ j l. h j (omega arith)) k l' out in'))
      (below_suc l)
    where
      go : (b : Bool) → p n ≡ b → (c : Bool) → q n ≡ c → length (select p n) < length (select q n)
          → length (cond b (select p n ++ (n ∷ [])) (select p n)) < length (cond c (select q n ++ (n ∷ [])) (select q n))
      go true e true i g = omega (arith, length-append (select p n) (n ∷ []), length-append (select q n) (n ∷ []))
      go true e false i g = absurd (false-not (q n) i (h n (omega arith) (true-T (p n) e)))
      go false e true i g = omega (arith, length-append (select q n) (n ∷ []))
      go false e false i g = g

  -- tests that never hold together select no more numbers than there are
  pub select_apart : ((k : ℕ) → T (p k) → T (q k) → ⊥) → (n : ℕ) → length (select p n) + length (select q n) ≤ n
  unfolding select
  select_apart h zero = omega arith
  select_apart h (suc n) = go (p n) refl (q n) refl (select_apart h n)
    where
      go : (b : Bool) → p n ≡ b → (c : Bool) → q n ≡ c → length (select p n) + length (select q n) ≤ n
          → length (cond b (select p n ++ (n ∷ [])) (select p n)) + length (cond c (select q n ++ (n ∷ [])) (select q n)) ≤ suc n
      go true e true i g = absurd (h n (true-T (p n) e) (true-T (q n) i))
      go true e false i g = omega (arith, length-append (select p n) (n ∷ []))
      go false e true i g = omega (arith, length-append (select q n) (n ∷ []))
      go false e false i g = omega arith

-- ---- the lowest number at which a test holds

pub lowest-is : (p : ℕ → Bool) (n k : ℕ) → k < n → T (p k) → ((j : ℕ) → j < k → T (p j) → ⊥) → lowest p n ≡ some k
unfolding lowest
lowest-is p n k l t b =
    first-is (λ j. given (p j) j) n k (k, l, given-true (p k) k (T_true (p k) t), λ j h. given-false (p j) j (not-false (p j) (b j h)))

pub lowest-nothing : (p : ℕ → Bool) (n : ℕ) → ((j : ℕ) → j < n → T (p j) → ⊥) → lowest p n ≡ none
unfolding lowest
lowest-nothing p n b = first-nothing (λ j. given (p j) j) n (λ j h. given-false (p j) j (not-false (p j) (b j h)))

-- a test p that holds only where h does: the lowest stands at the first place of the selected numbers at which it holds
module _ (h p : ℕ → Bool) (only : (k : ℕ) → T (p k) → T (h k)) (n : ℕ) where
  pub selected-lowest : (r : ℕ) → r < length (select h n) → T (p (get_or (select h n) r 0))
      → ((i : ℕ) → i < r → T (p (get_or (select h n) i 0)) → ⊥) → lowest p n ≡ some (get_or (select h n) r 0)
  selected-lowest r l t b =
      let f = select-found h n r l in
      lowest-is p n (get_or (select h n) r 0) f.0 t
      (λ j k u.
      let s = select_has h n j (omega (arith, f.0)) (only j u) in
      b s.0 (select-before h n s.0 r s.1 l (omega (arith, s.2))) (subst (λ (z : ℕ). T (p z)) (sym s.2) u))

  pub selected-nothing : ((i : ℕ) → i < length (select h n) → T (p (get_or (select h n) i 0)) → ⊥) → lowest p n ≡ none
  selected-nothing b =
      lowest-nothing p n
      (λ j l u. let s = select_has h n j l (only j u) in b s.0 s.1 (subst (λ (z : ℕ). T (p z)) (sym s.2) u))
