-- One call of `next` in a walk over the numbers of a set. Assumes nothing.
use mathlib.Core.Path.{◌≡◌, refl, sym, ap, subst, ◌∙◌}
use mathlib.Core.Bool.{Bool, true, false, not, ◌&&◌}
use Rattle.std.specs.Prelude.{Some as some}
use Prim.Native.Nat.{ℕ, zero, suc, ◌+◌, ◌-◌, ◌*◌, ◌/◌, ◌%◌, ◌^◌, ◌<◌}
use native.Mathlib.Omega.{arith}
use native.Mathlib.Decide.{dec_lt}
use borrow.Author.Tests.{le-leb, lt-leb}
use lib.Dec.{T, eqb, leb, eqb→eq, leb→le}
use Rattle.base.specs.Search.{lowest}
use Rattle.base.proofs.SearchLaws.{lowest-some}
use Rattle.base.proofs.Tests.{and_T, T-same, T-eqb}
use Rattle.boxsets.specs.Words.{bit_at}
use Rattle.boxsets.specs.Sets.{word_at, is_in, low}
use Rattle.boxsets.specs.Reach.{reaches, InReach}
use Rattle.boxsets.specs.Members.{TakesLowest}
use Rattle.boxsets.specs.declared.Set.{Set}
use Rattle.boxsets.proofs.WordLaws.{zero_bit}
use Rattle.boxsets.proofs.MemberLaws.{in-at, in-beyond}
use Rattle.boxsets.proofs.LowLaws.{zeros₀, low-at, low-in, low-least, dropped-word}

pub reaches-none : (from : ℕ) (x : Set) → ((k : ℕ) → is_in x k ≡ false) → (k : ℕ) → reaches from x k ≡ false
unfolding reaches
reaches-none from x none k = rw (none (k - from)) (go (leb from k))
  where
    go : (b : Bool) → (b && false) ≡ false
    go true = refl
    go false = refl

-- ---- the walk begins at 0

pub reaches-all : (x : Set) (k : ℕ) → reaches 0 x k ≡ is_in x k
unfolding reaches
reaches-all x k = let e : k - 0 ≡ k = omega arith in rw (le-leb 0 k (omega arith), e) refl

pub in_reach : (x : Set) → InReach 0 x
in_reach x k t = go (dec_lt k 256)
  where
    go : Dec (k < 256) → 0 + k < 256
    go (yes l) = omega arith
    go (no l) = absurd (subst T (in-beyond x k (omega arith)) t)

-- ---- the lowest number of the rest is taken

pub takes-from : (from : ℕ) {l : ℕ} (x y : Set) → TakesLowest (is_in x) l (is_in y) → from + l < 256
    → TakesLowest (reaches from x) (from + l) (reaches from y)
unfolding reaches
takes-from from {l} x y t b =
    let e : from + l - from ≡ l = omega arith in
    record {
      below = b;
      there = rw (le-leb from (from + l) (omega arith), e) t.there;
      lowest = λ j h u.
          let a = and_T (leb from j) (is_in x (j - from)) u in
          let f = leb→le from j a.0 in
          t.lowest (j - from) (omega arith) a.1;
      others = λ j. go j (dec_lt j from);
    }
  where
    go : (j : ℕ) → Dec (j < from) → (leb from j && is_in y (j - from)) ≡ ((leb from j && is_in x (j - from)) && not (eqb j (from + l)))
    go j (yes h) = rw (lt-leb from j h) refl
    go j (no h) =
        let same : eqb (j - from) l ≡ eqb j (from + l)
        = T-same (eqb (j - from) l) (eqb j (from + l))
        (λ u. let f = eqb→eq (j - from) l u in let g : j ≡ from + l = omega arith in T-eqb g)
        (λ u. let f = eqb→eq j (from + l) u in let g : j - from ≡ l = omega arith in T-eqb g) in
        rw (le-leb from j (omega arith)) (t.others (j - from) ∙ ap (λ (b : Bool). is_in x (j - from) && not b) same)

-- it is the lowest bit of the first word
pub reach-bit : (from l : ℕ) (x : Set) → lowest (bit_at x.a) 64 ≡ some l → InReach from x → from + l < 256
unfolding word_at
reach-bit from l x found reach =
    let s = lowest-some (bit_at x.a) 64 l found in
    let e : 0 * 64 + l ≡ l = omega arith in
    reach l (rw e at (subst T (sym (in-at x 0 l s.0)) s.1))

module _ (from l w : ℕ) (x y : Set) (pos : 0 < x.a) (fits : x.a < 2 ^ 64) (found : lowest (bit_at x.a) 64 ≡ some l)
    (bits : (l b : ℕ) → lowest (bit_at x.a) 64 ≡ some l → bit_at w b ≡ (bit_at x.a b && not (eqb b l)))
    (is : y ≡ record { a = w; b = x.b; c = x.c; d = x.d }) where
  first-is : low x ≡ l
  unfolding word_at
  first-is = let e = low-at x 0 l (omega arith) (zeros₀ x) found in omega arith

  first-there : low x < 256
  first-there = omega (arith, first-is, (lowest-some (bit_at x.a) 64 l found).0)

  dropped-is : (k : ℕ) → is_in y k ≡ (is_in x k && not (eqb k (low x)))
  unfolding word_at
  dropped-is = rw is (dropped-word x 0 w (omega arith) (zeros₀ x) pos fits bits)

  takes-first : TakesLowest (is_in x) l (is_in y)
  takes-first = record {
    below = omega (arith, (lowest-some (bit_at x.a) 64 l found).0);
    there = subst (λ (j : ℕ). T (is_in x j)) first-is (low-in x first-there);
    lowest = λ j h. low-least x j (rw first-is h);
    others = λ j. rw (sym first-is) (dropped-is j);
  }

  pub takes-bit : InReach from x → TakesLowest (reaches from x) (from + l) (reaches from y)
  takes-bit reach = takes-from from x y takes-first (reach l takes-first.there)

  pub reach-rest : InReach from x → InReach from y
  reach-rest reach k t = reach k (and_T (is_in x k) (not (eqb k (low x))) (subst T (dropped-is k) t)).0

-- ---- a first word that is 0 is passed over

abbrev pub moved : Set → Set
moved x = record { a = x.b; b = x.c; c = x.d; d = 0 }

moved-word : (x : Set) (p : ℕ) → word_at (moved x) p ≡ word_at x (suc p)
unfolding word_at
moved-word x zero = refl
moved-word x (suc zero) = refl
moved-word x (suc (suc zero)) = refl
moved-word x (suc (suc (suc zero))) = refl
moved-word x (suc (suc (suc (suc p)))) = refl

moved-in : (x : Set) (k : ℕ) → is_in (moved x) k ≡ is_in x (k + 64)
unfolding is_in
moved-in x k =
    let e : (k + 64) / 64 ≡ suc (k / 64) = omega arith in
    let f : (k + 64) % 64 ≡ k % 64 = omega arith in
    rw (e, f) (ap (λ (w : ℕ). bit_at w (k % 64)) (moved-word x (k / 64)))

low_none : (x : Set) → x.a ≡ 0 → (k : ℕ) → k < 64 → is_in x k ≡ false
unfolding is_in word_at
low_none x e k l = let f : k / 64 ≡ 0 = omega arith in rw (f, e) (zero_bit (k % 64))

pub reaches-moved : (from : ℕ) (x : Set) → x.a ≡ 0 → (k : ℕ) → reaches (from + 64) (moved x) k ≡ reaches from x k
unfolding reaches
reaches-moved from x e k = go (dec_lt k from) (dec_lt k (from + 64))
  where
    go : Dec (k < from) → Dec (k < from + 64) → (leb (from + 64) k && is_in (moved x) (k - (from + 64))) ≡ (leb from k && is_in x (k - from))
    go (yes l) m = rw (lt-leb from k l, lt-leb (from + 64) k (omega arith)) refl
    go (no l) (yes m) = rw (le-leb from k (omega arith), lt-leb (from + 64) k m) (sym (low_none x e (k - from) (omega arith)))
    go (no l) (no m) =
        let f : k - (from + 64) + 64 ≡ k - from = omega arith in
        rw (le-leb from k (omega arith), le-leb (from + 64) k (omega arith)) (moved-in x (k - (from + 64)) ∙ ap (is_in x) f)

pub reach-moved : (from : ℕ) (x : Set) → InReach from x → InReach (from + 64) (moved x)
reach-moved from x reach k t = omega (arith, reach (k + 64) (subst T (moved-in x k) t))

-- a number that is left shows that the walk is not at its end
pub reach-low : (from : ℕ) (x : Set) → InReach from x → low x < 256 → from < 256
reach-low from x reach l = omega (arith, reach (low x) (low-in x l))
