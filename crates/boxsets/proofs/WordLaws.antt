-- Bits of words that are joined, shared, taken away, shifted. Assumes nothing.
use mathlib.Core.Path.{◌≡◌, refl, sym, ap, ap₂, ◌∙◌}
use mathlib.Core.Bool.{false, not, ◌&&◌, ◌||◌}
use Prim.Native.Nat.{ℕ, zero, suc, ◌+◌, ◌-◌, ◌*◌, ◌/◌, ◌%◌, ◌^◌, ◌<◌, min, max}
use native.Mathlib.Omega.{arith}
use native.Mathlib.Nat.{pow-suc, one-mul, zero-add, add-zero, suc-add, div-one}
use native.Mathlib.Numerals.{one-add}
use borrow.Author.Tests.{ne_eqb}
use lib.Arith.{digits_mod}
use lib.Bits.{bit_and, bit_or, and_step, and_shr, and_le_l, or_step, or_shr}
use lib.Dec.{eqb, eqb→eq, lit<}
use lib.Pow.{shl_exact, shr-shr}
use Rattle.base.proofs.Tests.{T-eqb, T-same}
use Rattle.boxsets.specs.Words.{bit_at}

-- ---- numbers that are the same

pub eqb-suc : (a b : ℕ) → eqb (suc a) (suc b) ≡ eqb a b
eqb-suc a b =
    T-same (eqb (suc a) (suc b)) (eqb a b)
    (λ t. let e = eqb→eq (suc a) (suc b) t in let f : a ≡ b = omega arith in T-eqb f)
    (λ t. let e = eqb→eq a b t in let f : suc a ≡ suc b = ap suc e in T-eqb f)

pub eqb-turned : (a b : ℕ) → eqb a b ≡ eqb b a
eqb-turned a b =
    T-same (eqb a b) (eqb b a)
    (λ t. let e : b ≡ a = sym (eqb→eq a b t) in T-eqb e)
    (λ t. let e : a ≡ b = sym (eqb→eq b a t) in T-eqb e)

pub eqb-shifted : (f a b : ℕ) → eqb (f + a) (f + b) ≡ eqb a b
eqb-shifted f a b =
    T-same (eqb (f + a) (f + b)) (eqb a b)
    (λ t. let e = eqb→eq (f + a) (f + b) t in let g : a ≡ b = omega arith in T-eqb g)
    (λ t. let e = eqb→eq a b t in let g : f + a ≡ f + b = omega arith in T-eqb g)

-- ---- the lowest bit, and those above it

pub low_bit : (w : ℕ) → bit_at w 0 ≡ eqb (w % 2) 1
unfolding bit_at
low_bit w = refl

pub next_bit : (w b : ℕ) → bit_at w (suc b) ≡ bit_at (w / 2) b
unfolding bit_at
next_bit w b = refl

-- ---- a word that is 0, and what two words share

pub zero_bit : (b : ℕ) → bit_at 0 b ≡ false
unfolding bit_at
zero_bit zero = refl
zero_bit (suc b) = zero_bit b

min-digit : (x y : ℕ) → x < 2 → y < 2 → eqb (min x y) 1 ≡ (eqb x 1 && eqb y 1)
min-digit zero zero h k = refl
min-digit zero (suc zero) h k = refl
min-digit (suc zero) zero h k = refl
min-digit (suc zero) (suc zero) h k = refl
min-digit (suc (suc x)) y h k = absurd (omega arith)
min-digit zero (suc (suc y)) h k = absurd (omega arith)
min-digit (suc zero) (suc (suc y)) h k = absurd (omega arith)

min-lt : (x y : ℕ) → x < 2 → min x y < 2
min-lt x y h = omega arith

pub and-bit : (x y b : ℕ) → bit_at (bit_and x y) b ≡ (bit_at x b && bit_at y b)
unfolding bit_at
and-bit x y zero =
    let l : x % 2 < 2 = omega arith in
    ap (λ (w : ℕ). eqb (w % 2) 1) (and_step x y)
    ∙ ap (λ (d : ℕ). eqb d 1) (digits_mod (bit_and (x / 2) (y / 2)) (min-lt (x % 2) (y % 2) l))
    ∙ min-digit (x % 2) (y % 2) l (omega arith)
and-bit x y (suc b) = ap (λ (w : ℕ). bit_at w b) (and_shr x y 1) ∙ and-bit (x / 2) (y / 2) b

-- ---- joined

max-digit : (x y : ℕ) → x < 2 → y < 2 → eqb (max x y) 1 ≡ (eqb x 1 || eqb y 1)
max-digit zero zero h k = refl
max-digit zero (suc zero) h k = refl
max-digit (suc zero) zero h k = refl
max-digit (suc zero) (suc zero) h k = refl
max-digit (suc (suc x)) y h k = absurd (omega arith)
max-digit zero (suc (suc y)) h k = absurd (omega arith)
max-digit (suc zero) (suc (suc y)) h k = absurd (omega arith)

max-lt : (x y : ℕ) → x < 2 → y < 2 → max x y < 2
max-lt x y h k = omega arith

pub or-bit : (x y b : ℕ) → bit_at (bit_or x y) b ≡ (bit_at x b || bit_at y b)
unfolding bit_at
or-bit x y zero =
    let l : x % 2 < 2 = omega arith in
    let k : y % 2 < 2 = omega arith in
    ap (λ (w : ℕ). eqb (w % 2) 1) (or_step x y)
    ∙ ap (λ (d : ℕ). eqb d 1) (digits_mod (bit_or (x / 2) (y / 2)) (max-lt (x % 2) (y % 2) l k))
    ∙ max-digit (x % 2) (y % 2) l k
or-bit x y (suc b) = ap (λ (w : ℕ). bit_at w b) (or_shr x y 1) ∙ or-bit (x / 2) (y / 2) b

-- ---- taken away

less-digit : (x y : ℕ) → x < 2 → y < 2 → eqb (x - min x y) 1 ≡ (eqb x 1 && not (eqb y 1))
less-digit zero zero h k = refl
less-digit zero (suc zero) h k = refl
less-digit (suc zero) zero h k = refl
less-digit (suc zero) (suc zero) h k = refl
less-digit (suc (suc x)) y h k = absurd (omega arith)
less-digit zero (suc (suc y)) h k = absurd (omega arith)
less-digit (suc zero) (suc (suc y)) h k = absurd (omega arith)

abbrev pub less : ℕ → ℕ → ℕ
less x y = x - bit_and x y

less-low : (x y : ℕ) → less x y % 2 ≡ x % 2 - min (x % 2) (y % 2)
less-low x y = omega (arith, and_step x y, and_le_l (x / 2) (y / 2))

less-half : (x y : ℕ) → less x y / 2 ≡ less (x / 2) (y / 2)
less-half x y = omega (arith, and_step x y, and_le_l (x / 2) (y / 2))

pub less-bit : (x y b : ℕ) → bit_at (less x y) b ≡ (bit_at x b && not (bit_at y b))
unfolding bit_at
less-bit x y zero = ap (λ (d : ℕ). eqb d 1) (less-low x y) ∙ less-digit (x % 2) (y % 2) (omega arith) (omega arith)
less-bit x y (suc b) = ap (λ (w : ℕ). bit_at w b) (less-half x y) ∙ less-bit (x / 2) (y / 2) b

-- ---- one bit

pub pow-bit : (k b : ℕ) → bit_at (2 ^ k) b ≡ eqb b k
unfolding bit_at
pow-bit zero zero = refl
pow-bit zero (suc b) = let e : 2 ^ 0 / 2 ≡ 0 = refl in ap (λ (w : ℕ). bit_at w b) e ∙ zero_bit b ∙ sym (ne_eqb (suc b) 0 (omega arith))
pow-bit (suc k) zero =
    let e : 2 ^ suc k % 2 ≡ 0 = rw pow-suc (omega arith) in
    ap (λ (d : ℕ). eqb d 1) e ∙ sym (ne_eqb 0 (suc k) (omega arith))
pow-bit (suc k) (suc b) =
    let e : 2 ^ suc k / 2 ≡ 2 ^ k = rw pow-suc (omega arith) in
    ap (λ (w : ℕ). bit_at w b) e ∙ pow-bit k b ∙ sym (eqb-suc b k)

-- 1 shifted up
pub one_shifted : (k : ℕ) → k < 64 → 1 * 2 ^ k % 2 ^ 64 ≡ 2 ^ k
one_shifted k h = shl_exact {a = 1} 1 k 64 (lit< tt) (omega arith) ∙ one-mul (2 ^ k)

-- ---- shifted down

pub shift-bit : (k w b : ℕ) → bit_at (w / 2 ^ k) b ≡ bit_at w (k + b)
unfolding bit_at
shift-bit zero w b = ap₂ bit_at (div-one w) (sym (zero-add b))
shift-bit (suc k) w b =
    ap (λ (x : ℕ). bit_at x b) (ap (λ (i : ℕ). w / 2 ^ i) (sym (one-add k)) ∙ sym (shr-shr w 1 k))
    ∙ shift-bit k (w / 2) b
    ∙ ap (bit_at w) (sym (suc-add k b))

-- the lowest bit of the shifted word
pub low-shifted : (k w : ℕ) → eqb (w / 2 ^ k % 2) 1 ≡ bit_at w k
unfolding bit_at
low-shifted k w = shift-bit k w 0 ∙ ap (bit_at w) (add-zero k)
