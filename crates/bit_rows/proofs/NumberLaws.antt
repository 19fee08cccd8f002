-- Tests as the bits of a number. Assumes nothing.
use mathlib.Core.Path.{◌≡◌, refl, ap, ap₂, ◌∙◌}
use mathlib.Core.Bool.{Bool}
use Prim.Native.Nat.{ℕ, zero, suc, ◌+◌, ◌*◌, ◌/◌, ◌%◌, ◌^◌, ◌<◌, ◌≤◌}
use native.Mathlib.Nat.{pow-suc, le_of_suc-le-suc}
use native.Mathlib.Omega.{arith}
use lib.Arith.{mod-mul}
use lib.Dec.{eqb}
use lib.Pow.{pow_pos}
use Rattle.base.specs.Steps.{bit}
use Rattle.base.proofs.Bits.{bit_is, bit-one, bit-lt}
use Rattle.boxsets.specs.Words.{bit_at}
use Rattle.boxsets.proofs.WordLaws.{low_bit, next_bit}
use Rattle.bit_rows.specs.Bits.{row_width, number, row_bits}

pub number_same : (f g : ℕ → Bool) (n : ℕ) → ((j : ℕ) → j < n → f j ≡ g j) → number f n ≡ number g n
unfolding number
number_same f g zero h = refl
number_same f g (suc n) h =
    ap₂ (λ (x y : ℕ). x + 2 * y) (ap bit (h 0 (omega arith)))
    (number_same (λ j. f (suc j)) (λ j. g (suc j)) n (λ j l. h (suc j) (omega arith)))

-- bit j is the test of j
pub number_bit : (f : ℕ → Bool) (n j : ℕ) → j < n → bit_at (number f n) j ≡ f j
unfolding number
number_bit f zero j l = absurd (omega arith)
number_bit f (suc n) zero l =
    let b = bit-lt (f 0) in
    let e : (bit (f 0) + 2 * number (λ j. f (suc j)) n) % 2 ≡ bit (f 0) = omega arith in
    low_bit (number f (suc n)) ∙ ap (λ (d : ℕ). eqb d 1) e ∙ bit-one (f 0)
number_bit f (suc n) (suc j) l =
    let b = bit-lt (f 0) in
    let e : (bit (f 0) + 2 * number (λ j. f (suc j)) n) / 2 ≡ number (λ j. f (suc j)) n = omega arith in
    next_bit (number f (suc n)) j ∙ ap (λ (x : ℕ). bit_at x j) e ∙ number_bit (λ j. f (suc j)) n j (le_of_suc-le-suc l)

low_digit : (d : ℕ) → d < 2 → bit (eqb d 1) ≡ d
low_digit zero l = bit_is (eqb 0 1)
low_digit (suc zero) l = bit_is (eqb 1 1)
low_digit (suc (suc d)) l = absurd (omega arith)

-- the n lowest bits of a word are the word's remainder
pub number-low : (n w : ℕ) → number (bit_at w) n ≡ w % 2 ^ n
unfolding number
number-low zero w = omega arith
number-low (suc n) w =
    let two : 0 < 2 = omega arith in
    ap₂ (λ (x y : ℕ). x + 2 * y) (ap bit (low_bit w) ∙ low_digit (w % 2) (omega arith))
    (number_same (λ j. bit_at w (suc j)) (bit_at (w / 2)) n (λ j l. next_bit w j) ∙ number-low n (w / 2))
    ∙ omega (arith, ap (λ (m : ℕ). w % m) (pow-suc 2 n) ∙ mod-mul w (pow_pos n) two)

-- ---- rows

-- number b has a bit of its own
pub row-bit : (test : ℕ → ℕ → Bool) (a b : ℕ) → bit_at (row_bits test a (b / 8)) (b % 8) ≡ test a b
unfolding row_bits
row-bit test a b =
    let e : 8 * (b / 8) + b % 8 ≡ b = omega arith in
    number_bit (λ j. test a (8 * (b / 8) + j)) 8 (b % 8) (omega arith) ∙ ap (test a) e

pub row-bits-same : (f g : ℕ → ℕ → Bool) (a : ℕ) → ((b : ℕ) → f a b ≡ g a b) → (q : ℕ) → row_bits f a q ≡ row_bits g a q
unfolding row_bits
row-bits-same f g a same q = number_same (λ j. f a (8 * q + j)) (λ j. g a (8 * q + j)) 8 (λ j l. same (8 * q + j))

pub width_is : (n : ℕ) → row_width n ≡ (n + 7) / 8
unfolding row_width
width_is n = refl

-- its byte is in the row
pub in-width : (n b : ℕ) → b < n → b / 8 < row_width n
unfolding row_width
in-width n b l = omega arith

pub width-most : (n : ℕ) → n ≤ 256 → row_width n ≤ 32
unfolding row_width
width-most n few = omega arith
