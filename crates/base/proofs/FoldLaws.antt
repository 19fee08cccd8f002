-- What is made of f 0, f 1, .., n of them, one after the other: for searches, and for lists that are joined. Assumes nothing.
use mathlib.Core.Path.{◌≡◌, refl, sym, ap, ap₂, ◌∙◌}
use mathlib.Core.Bool.{Bool, true, false, cond}
use mathlib.Core.List.{List, [], ◌∷◌, ◌++◌}
use Rattle.std.specs.Prelude.{Option, None as none, Some as some}
use Prim.Native.Nat.{ℕ, zero, suc, ◌+◌, ◌*◌, ◌/◌, ◌%◌, ◌<◌}
use native.Mathlib.Omega.{arith}
use native.Mathlib.Nat.{add-zero, add-suc, zero-mul, suc-mul, mul-add-div_right, mul-add-mod_self_right, div-eq_of_lt, mod-eq_of_lt}
use native.Mathlib.Numerals.{add-one}
use lib.ListN.{length, get_or, length-append, get_or-append}
use lib.Seq.{get_or-append_seam}
use Rattle.base.specs.Search.{or_else, first, select}
use Rattle.base.proofs.Options.{or_else-assoc}

module _ {A : Type 0} (e : A) (op : A → A → A) where
  unfoldable pub fold : (ℕ → A) → ℕ → A
  fold f zero = e
  fold f (suc n) = op (fold f n) (f n)

  pub fold-none : (f : ℕ → A) → fold f 0 ≡ e
  unfolding fold
  fold-none f = refl

  pub fold_more : (f : ℕ → A) (n : ℕ) → fold f (suc n) ≡ op (fold f n) (f n)
  unfolding fold
  fold_more f n = refl

  pub fold_same : (f g : ℕ → A) (n : ℕ) → ((k : ℕ) → k < n → f k ≡ g k) → fold f n ≡ fold g n
  unfolding fold
  fold_same f g zero h = refl
  fold_same f g (suc n) h = ap₂ op (fold_same f g n (λ k l. h k (omega arith))) (h n (omega arith))

-- of an operation that may be done in any grouping, and that e leaves alone
pub record Chains {A : Type 0} (e : A) (op : A → A → A) : Type 0 where
  pub assoc : (a b c : A) → op (op a b) c ≡ op a (op b c)
  pub left : (a : A) → op e a ≡ a
  pub right : (a : A) → op a e ≡ a

module _ {A : Type 0} (e : A) (op : A → A → A) (law : Chains e op) where
  -- in two parts
  pub fold-add : (f : ℕ → A) (a n : ℕ) → fold e op f (a + n) ≡ op (fold e op f a) (fold e op (λ p. f (a + p)) n)
  unfolding fold
  fold-add f a zero = ap (λ (k : ℕ). fold e op f k) (add-zero a) ∙ sym (law.right (fold e op f a))
  fold-add f a (suc n) =
      ap (λ (k : ℕ). fold e op f k) (add-suc a n)
      ∙ ap (λ (x : A). op x (f (a + n))) (fold-add f a n)
      ∙ law.assoc (fold e op f a) (fold e op (λ p. f (a + p)) n) (f (a + n))

  -- row by row
  pub fold-grid : (g : ℕ → ℕ → A) (n k : ℕ) → fold e op (λ i. g (i / n) (i % n)) (k * n) ≡ fold e op (λ j. fold e op (g j) n) k
  unfolding fold
  fold-grid g n zero = ap (λ (m : ℕ). fold e op (λ i. g (i / n) (i % n)) m) (zero-mul n)
  fold-grid g n (suc k) =
      ap (λ (m : ℕ). fold e op (λ i. g (i / n) (i % n)) m) (suc-mul k n)
      ∙ fold-add (λ i. g (i / n) (i % n)) (k * n) n
      ∙ ap₂ op (fold-grid g n k)
      (fold_same e op (λ p. g ((k * n + p) / n) ((k * n + p) % n)) (g k) n
      (λ p l.
      ap₂ g (mul-add-div_right (omega arith) k p ∙ ap (λ (q : ℕ). k + q) (div-eq_of_lt l) ∙ add-zero k)
      (mul-add-mod_self_right k n p ∙ mod-eq_of_lt l)))

  -- over the numbers at which a test holds
  pub fold-select : (p : ℕ → Bool) (h : ℕ → A) (n : ℕ)
      → fold e op (λ j. h (get_or (select p n) j 0)) (length (select p n)) ≡ fold e op (λ m. cond (p m) (h m) e) n
  unfolding select fold
  fold-select p h zero = refl
  fold-select p h (suc n) = go (p n) (select p n) (fold-select p h n)
    where
      go : (b : Bool) (xs : List ℕ) {y : A} → fold e op (λ j. h (get_or xs j 0)) (length xs) ≡ y
          → fold e op (λ j. h (get_or (cond b (xs ++ (n ∷ [])) xs) j 0)) (length (cond b (xs ++ (n ∷ [])) xs)) ≡ op y (cond b (h n) e)
      go true xs i =
          ap (λ (m : ℕ). fold e op (λ j. h (get_or (xs ++ (n ∷ [])) j 0)) m) (length-append xs (n ∷ []) ∙ add-one (length xs))
          ∙ ap₂ op
          (fold_same e op (λ j. h (get_or (xs ++ (n ∷ [])) j 0)) (λ j. h (get_or xs j 0)) (length xs)
          (λ j l. ap h (get_or-append xs (n ∷ []) 0 j l)) ∙ i)
          (ap h (get_or-append_seam xs n [] 0))
      go false xs i = i ∙ sym (law.right _)

-- a search is such a fold
pub first-fold : {A : Type 0} (g : ℕ → Option A) (n : ℕ) → first g n ≡ fold none or_else g n
unfolding first fold
first-fold g zero = refl
first-fold g (suc n) = ap (λ (x : Option _). or_else x (g n)) (first-fold g n)

pub or_else-chains : {A : Type 0} → Chains {A = Option A} none or_else
unfolding or_else
or_else-chains {A} = record { assoc = or_else-assoc; left = λ a. refl; right = right }
  where
    right : (a : Option A) → or_else a none ≡ a
    right none = refl
    right (some x) = refl
