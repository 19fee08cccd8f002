-- The lowest bit of a word, and the word without it. Assumes nothing.
use mathlib.Core.Path.{◌≡◌, refl, sym, ap, subst, ◌∙◌}
use mathlib.Core.Bool.{Bool, true, false, not, ◌&&◌}
use Rattle.std.specs.Prelude.{Some as some}
use Prim.Native.Nat.{ℕ, zero, suc, ◌-◌, ◌/◌, ◌%◌, ◌^◌, ◌<◌}
use native.Mathlib.Omega.{arith}
use native.Mathlib.Nat.{le_of_suc-le-suc}
use native.Mathlib.Numerals.{add-one}
use borrow.Author.Tests.{ne_eqb}
use lib.Bits.{bit_and}
use lib.Count.{count_trailing_zeros, under}
use lib.Dec.{T, eqb, eqb→eq}
use lib.Pow.{shr_lt}
use Rattle.base.specs.Search.{lowest}
use Rattle.base.proofs.SearchLaws.{lowest-some}
use Rattle.base.proofs.SelectLaws.{lowest-is}
use Rattle.base.proofs.Tests.{T-eqb, not-false}
use Rattle.boxsets.specs.Words.{bit_at}
use Rattle.boxsets.proofs.WordLaws.{and-bit, eqb-suc}

-- ---- as many zeros stand below it

half_lt : (n w : ℕ) → w < 2 ^ suc n → w / 2 < 2 ^ n
half_lt n w h = shr_lt n 1 (rw add-one h)

-- r is the lowest set bit of a word of n bits
abbrev Low : ℕ → ℕ → ℕ → Type 0
Low n w r = (r < n) × T (bit_at w r) × ((j : ℕ) → j < r → T (bit_at w j) → ⊥)

trailing-low : (n w : ℕ) → 0 < w → w < 2 ^ n → Low n w (count_trailing_zeros n w)
unfolding count_trailing_zeros bit_at
trailing-low zero w p h = absurd (omega arith)
trailing-low (suc n) w p h = go (w % 2) refl (λ q. trailing-low n (w / 2) q (half_lt n w h))
  where
    go : (d : ℕ) → w % 2 ≡ d → (0 < w / 2 → Low n (w / 2) (count_trailing_zeros n (w / 2))) → Low (suc n) w (under d (count_trailing_zeros n (w / 2)))
    go zero e ih = let l = ih (omega arith) in (omega (arith, l.0), l.1, below l.2)
      where
        below : ((j : ℕ) → j < count_trailing_zeros n (w / 2) → T (bit_at (w / 2) j) → ⊥) → (j : ℕ) → j < suc (count_trailing_zeros n (w / 2)) → T (bit_at w j) → ⊥
        below b zero h t = subst (λ (d : ℕ). T (eqb d 1)) e t
        below b (suc j) h t = b j (le_of_suc-le-suc h) t
    go (suc d) e ih =
        let o : w % 2 ≡ 1 = omega arith in
        (omega arith, T-eqb o, λ j h. absurd (omega arith))

pub trailing-lowest : (w : ℕ) → 0 < w → w < 2 ^ 64 → lowest (bit_at w) 64 ≡ some (count_trailing_zeros 64 w)
trailing-lowest w p h = let l = trailing-low 64 w p h in lowest-is (bit_at w) 64 (count_trailing_zeros 64 w) l.0 l.1 l.2

-- a word without set bits is 0
pub word-zero : (w : ℕ) → w < 2 ^ 64 → ((b : ℕ) → b < 64 → T (bit_at w b) → ⊥) → w ≡ 0
word-zero zero h n = refl
word-zero (suc w) h n =
    let s = lowest-some (bit_at (suc w)) 64 (count_trailing_zeros 64 (suc w)) (trailing-lowest (suc w) (omega arith) h) in
    absurd (n (count_trailing_zeros 64 (suc w)) s.0 s.1)

-- ---- without it

and_same : (t : Bool) → (t && t) ≡ (t && true)
and_same true = refl
and_same false = refl

drop-and : (w l b : ℕ) → T (bit_at w l) → ((j : ℕ) → j < l → T (bit_at w j) → ⊥) → (bit_at w b && bit_at (w - 1) b) ≡ (bit_at w b && not (eqb b l))
unfolding bit_at
drop-and w zero zero t n = let e : w % 2 ≡ 1 = eqb→eq (w % 2) 1 t in let o : (w - 1) % 2 ≡ 0 = omega arith in rw (e, o)
drop-and w zero (suc b) t n =
    let e : w % 2 ≡ 1 = eqb→eq (w % 2) 1 t in
    let o : (w - 1) / 2 ≡ w / 2 = omega arith in
    ap (λ (x : ℕ). bit_at (w / 2) b && bit_at x b) o ∙ and_same (bit_at (w / 2) b) ∙ ap (λ (t : Bool). bit_at (w / 2) b && not t) (sym (ne_eqb (suc b) 0 (omega arith)))
drop-and w (suc l) zero t n = rw (not-false (eqb (w % 2) 1) (n 0 (omega arith)))
drop-and w (suc l) (suc b) t n =
    let z : eqb (w % 2) 1 ≡ false = not-false (eqb (w % 2) 1) (n 0 (omega arith)) in
    let o : (w - 1) / 2 ≡ w / 2 - 1 = half (w % 2) refl z in
    ap (λ (x : ℕ). bit_at (w / 2) b && bit_at x b) o ∙ drop-and (w / 2) l b t (λ j h. n (suc j) (omega arith))
    ∙ ap (λ (t : Bool). bit_at (w / 2) b && not t) (sym (eqb-suc b l))
  where
    half : (d : ℕ) → w % 2 ≡ d → eqb (w % 2) 1 ≡ false → (w - 1) / 2 ≡ w / 2 - 1
    half zero e z = omega arith
    half (suc d) e z = let o : w % 2 ≡ 1 = omega arith in absurd (subst T z (T-eqb o))

pub drop-bit : (w l b : ℕ) → lowest (bit_at w) 64 ≡ some l → bit_at (bit_and w (w - 1)) b ≡ (bit_at w b && not (eqb b l))
drop-bit w l b e = let s = lowest-some (bit_at w) 64 l e in and-bit w (w - 1) b ∙ drop-and w l b s.1 s.2
