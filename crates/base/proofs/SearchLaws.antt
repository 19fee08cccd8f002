-- What the searches of `specs/Search.antt` find, and how a loop that counts up follows them. Assumes nothing.
use mathlib.Core.Path.{◌≡◌, refl, sym, ap, subst, ◌∙◌}
use mathlib.Core.Logic.{◌⊎◌, ⊎_elim}
use mathlib.Core.Bool.{Bool, true, false, not, cond}
use Rattle.std.specs.Prelude.{Option, None as none, Some as some}
use Prim.Native.Nat.{ℕ, zero, suc, ◌+◌, ◌<◌, ◌≤◌}
use native.Mathlib.Omega.{arith}
use native.Mathlib.Numerals.{add-one}
use native.Mathlib.Nat.{eq-or-lt_of_le, le_of_suc-le-suc}
use lib.Dec.{T}
use borrow.Author.Tests.{ltb-false}
use lib.ListN.{length, get_or}
use mathlib.Core.List.{List}
use Rattle.std.specs.List.{position, position_or_len}
use Rattle.std.specs.Option.{option_map}
use Rattle.std.proofs.lemmas.List.Quantifiers.{position-Some}
use Rattle.std.proofs.lemmas.List.Sums.{prefix_len_passes}
use Rattle.base.specs.Search.{or_else, given, first, lowest, every}
use Rattle.base.proofs.Tests.{and_T, T_and}

-- below n + 1: n or below n
pub below_suc : {k n : ℕ} → k < suc n → (k ≡ n) ⊎ (k < n)
below_suc h = eq-or-lt_of_le (le_of_suc-le-suc h)

pub some-none : {A : Type 0} {x : A} → ◌≡◌ {A = Option A} (some x) none → ⊥
some-none e = let z : ◌≡◌ {A = ℕ} 0 1 = cc in absurd (omega arith)

-- ---- `first`

module _ {A : Type 0} (g : ℕ → Option A) where
  -- x stands at a number below n, and nothing before it
  abbrev pub Finds : ℕ → A → Type 0
  Finds n x = (k : ℕ) × (k < n) × (g k ≡ some x) × ((j : ℕ) → j < k → g j ≡ none)

  pub first-none : (n : ℕ) → first g n ≡ none → (k : ℕ) → k < n → g k ≡ none
  unfolding first or_else
  first-none zero e k h = absurd (omega arith)
  first-none (suc n) e k h = go (first g n) refl e (λ p. first-none n p k)
    where
      go : (r : Option A) → first g n ≡ r → or_else r (g n) ≡ none → (first g n ≡ none → k < n → g k ≡ none) → g k ≡ none
      go (some x) p q ih = absurd (some-none q)
      go none p q ih = ⊎_elim (λ i. ap g i ∙ q) (ih p) (below_suc h)

  pub first_some : (n : ℕ) (x : A) → first g n ≡ some x → Finds n x
  unfolding first or_else
  first_some zero x e = absurd (some-none (sym e))
  first_some (suc n) x e = go (first g n) refl e (first_some n x)
    where
      go : (r : Option A) → first g n ≡ r → or_else r (g n) ≡ some x → (first g n ≡ some x → Finds n x) → Finds (suc n) x
      go (some y) p q ih = let f = ih (p ∙ q) in (f.0, omega (arith, f.1), f.2, f.3)
      go none p q ih = (n, omega arith, q, first-none n p)

  pub first-is : (n : ℕ) (x : A) → Finds n x → first g n ≡ some x
  first-is n x f = go (first g n) refl
    where
      go : (r : Option A) → first g n ≡ r → r ≡ some x
      go none p = absurd (some-none (sym f.2 ∙ first-none n p f.0 f.1))
      go (some y) p =
          let s = first_some n y p in
          let low : ¬ (s.0 < f.0) = λ l. some-none (sym s.2 ∙ f.3 s.0 l) in
          let high : ¬ (f.0 < s.0) = λ l. some-none (sym f.2 ∙ s.3 f.0 l) in
          let at : s.0 ≡ f.0 = omega arith in
          sym s.2 ∙ ap g at ∙ f.2

  pub first-nothing : (n : ℕ) → ((k : ℕ) → k < n → g k ≡ none) → first g n ≡ none
  first-nothing n h = go (first g n) refl
    where
      go : (r : Option A) → first g n ≡ r → r ≡ none
      go none p = refl
      go (some x) p = let s = first_some n x p in absurd (some-none (sym s.2 ∙ h s.0 s.1))

  -- a loop that counts up: before it, after a number that gives nothing, at one that gives something
  pub first-zero : first g 0 ≡ none
  unfolding first
  first-zero = refl

  pub first_more : (n : ℕ) → first g n ≡ none → g n ≡ none → first g (n + 1) ≡ none
  unfolding first or_else
  first_more n e h = rw add-one (rw (e, or_else) h)

  pub first-here : (n k : ℕ) (x : A) → first g k ≡ none → g k ≡ some x → k < n → first g n ≡ some x
  first-here n k x e h l = first-is n x (k, l, h, first-none k e)

-- two searches that agree at each number below n
pub first-same : {A : Type 0} (g h : ℕ → Option A) (n : ℕ) → ((k : ℕ) → k < n → g k ≡ h k) → first g n ≡ first h n
unfolding first
first-same g h zero e = refl
first-same g h (suc n) e = rw (first-same g h n (λ k l. e k (omega arith)), e n (omega arith))

-- ---- `given`

pub given-some : {A : Type 0} (b : Bool) (x y : A) → given b x ≡ some y → T b × (x ≡ y)
unfolding given
given-some true x y e = (tt, cc)
given-some false x y e = absurd (some-none (sym e))

pub given-none : {A : Type 0} (b : Bool) (x : A) → given b x ≡ none → T b → ⊥
unfolding given
given-none true x e t = some-none e
given-none false x e t = t

pub given-true : {A : Type 0} (b : Bool) (x : A) → b ≡ true → given b x ≡ some x
unfolding given
given-true b x e = rw e

pub given-false : {A : Type 0} (b : Bool) (x : A) → b ≡ false → given b x ≡ none
unfolding given
given-false b x e = rw e

-- a loop that counts up to the lowest number at which the test holds
module _ {A : Type 0} (p : ℕ → Bool) (x : ℕ → A) where
  -- it has not been found yet
  abbrev pub Searched : ℕ → Type 0
  Searched k = first (λ j. given (p j) (x j)) k ≡ none

  pub search-none : Searched 0
  search-none = first-zero (λ j. given (p j) (x j))

  pub search-more : (k : ℕ) → Searched k → p k ≡ false → Searched (k + 1)
  search-more k e h = first_more (λ j. given (p j) (x j)) k e (given-false (p k) (x k) h)

  pub search-here : (n k : ℕ) → Searched k → p k ≡ true → k < n → first (λ j. given (p j) (x j)) n ≡ some (x k)
  search-here n k e h l = first-here (λ j. given (p j) (x j)) n k (x k) e (given-true (p k) (x k) h) l

-- ---- `lowest`, `every`

pub lowest-some : (p : ℕ → Bool) (n k : ℕ) → lowest p n ≡ some k → (k < n) × T (p k) × ((j : ℕ) → j < k → T (p j) → ⊥)
unfolding lowest
lowest-some p n k e =
    let f = first_some (λ j. given (p j) j) n k e in
    let s = given-some (p f.0) f.0 k f.2 in (
      subst (λ (i : ℕ). i < n) s.1 f.1,
      subst (λ (i : ℕ). T (p i)) s.1 s.0,
      λ j l. given-none (p j) j (f.3 j (omega (arith, s.1))),
    )

pub lowest-none : (p : ℕ → Bool) (n : ℕ) → lowest p n ≡ none → (k : ℕ) → k < n → T (p k) → ⊥
unfolding lowest
lowest-none p n e k l = given-none (p k) k (first-none (λ j. given (p j) j) n e k l)

-- two tests that agree at each number below n
pub lowest-same : (p q : ℕ → Bool) (n : ℕ) → ((k : ℕ) → k < n → p k ≡ q k) → lowest p n ≡ lowest q n
unfolding lowest
lowest-same p q n e = first-same (λ k. given (p k) k) (λ k. given (q k) k) n (λ k l. ap (λ (b : Bool). given b k) (e k l))

pub every-at : (p : ℕ → Bool) (n : ℕ) → T (every p n) → (k : ℕ) → k < n → T (p k)
unfolding every
every-at p zero t k h = absurd (omega arith)
every-at p (suc n) t k h =
    let b = and_T (every p n) (p n) t in
    ⊎_elim (λ i. subst (λ (j : ℕ). T (p j)) (sym i) b.1) (every-at p n b.0 k) (below_suc h)

pub every-is : (p : ℕ → Bool) (n : ℕ) → ((k : ℕ) → k < n → T (p k)) → T (every p n)
unfolding every
every-is p zero h = tt
every-is p (suc n) h = T_and (every p n) (p n) (every-is p n (λ k l. h k (omega arith))) (h n (omega arith))

pub every-same : (p q : ℕ → Bool) (n : ℕ) → ((k : ℕ) → k < n → p k ≡ q k) → every p n ≡ every q n
unfolding every
every-same p q zero e = refl
every-same p q (suc n) e = rw (every-same p q n (λ k l. e k (omega arith)), e n (omega arith))

-- ---- the library's search in a list

position-none : (p : ℕ → Bool) (xs : List ℕ) → position p xs ≡ none → (k : ℕ) → k < length xs → p (get_or xs k 0) ≡ false
position-none p xs e k l = all (p (get_or xs k 0)) (prefix_len_passes (λ x. not (p x)) xs k 0 (omega (arith, past)))
  where
    far : (b : Bool) → cond b (some (position_or_len p xs)) none ≡ none → b ≡ false
    far true q = absurd (some-none q)
    far false q = refl

    past : length xs ≤ position_or_len p xs
    past = ltb-false (position_or_len p xs) (length xs) (far _ e)

    all : (b : Bool) → not b ≡ true → b ≡ false
    all true q = let z : ◌≡◌ {A = ℕ} 0 1 = cc in absurd (omega arith)
    all false q = refl

pub position-first : {A : Type 0} (p : ℕ → Bool) (x : ℕ → A) (xs : List ℕ) (r : Option ℕ) → r ≡ position p xs
    → first (λ k. given (p (get_or xs k 0)) (x k)) (length xs) ≡ option_map x r
position-first p x xs none e =
    first-nothing _ (length xs) (λ k l. given-false _ (x k) (position-none p xs (sym e) k l))
position-first p x xs (some i) e =
    let at = position-Some p xs i 0 (sym e) in
    first-is _ (length xs) (x i) (i, at.0, given-true _ (x i) at.1, λ k l. given-false _ (x k) (at.2 k l))
