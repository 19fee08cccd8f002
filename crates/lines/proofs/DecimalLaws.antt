-- The fewest digits that hold a number are its decimal text. Assumes nothing.
use mathlib.Core.Path.{◌≡◌, ap}
use mathlib.Core.List.{List, [], ◌∷◌, ◌++◌}
use mathlib.Core.Logic.{⊎_elim}
use Prim.Native.Nat.{ℕ, zero, suc, ◌*◌, ◌/◌, ◌%◌, ◌^◌, ◌-◌, ◌<◌, ◌≤◌}
use native.Mathlib.Omega.{arith}
use native.Mathlib.Nat.{one-le-pow, pow-succ', pow-le-pow_right, eq-zero-or-pos, mod-eq_of_lt, mod-lt}
use borrow.Author.Tests.{lt-ltb, le-ltb}
use lib.ListN.{length, take}
use lib.Seq.{length-take-le}
use Rattle.io.specs.Digits.{hex_digit_ascii, last_digits, IsDigitCount}
use Rattle.lines.specs.Text.{digit, decimal_to, decimal}
use Rattle.lines.specs.Steps.{Put}

-- a digit as io has it
glyph-is : (d : ℕ) → d < 10 → hex_digit_ascii d ∷ [] ≡ digit d
unfolding digit
glyph-is d h = rw (lt-ltb d 10 h)

-- the last digits, where k more stand before it
digits_are : (most k n : ℕ) → k ≤ most → n < 10 ^ suc k → (0 < k → 10 ^ k ≤ n) → last_digits 10 (suc k) n ≡ decimal_to most n
unfolding decimal_to
digits_are zero k n h below above =
    let e : k ≡ 0 = omega arith in
    let small : n < 10 = rw e at below in
    rw (e, mod-eq_of_lt small) (glyph-is n small)
digits_are (suc most) zero n h below above =
    let small : n < 10 = below in
    rw (lt-ltb n 10 small, mod-eq_of_lt small) (glyph-is n small)
digits_are (suc most) (suc k) n h below above =
    let big : 10 * 10 ^ k ≤ n = rw pow-succ' at (above (omega arith)) in
    let small : n < 10 * 10 ^ suc k = rw pow-succ' at below in
    let one : 1 ≤ 10 ^ k = one-le-pow k 10 (omega arith) in
    rw (le-ltb n 10 (omega arith), glyph-is (n % 10) (mod-lt n (omega arith)))
    (ap (λ (l : List ℕ). l ++ digit (n % 10)) (digits_are most k (n / 10) (omega arith) (omega arith) (λ p. omega arith)))

-- 10 to the k is above k
above_power : (k : ℕ) → k < 10 ^ k
above_power zero = omega arith
above_power (suc k) = let h = above_power k in rw pow-succ' (omega arith)

pub decimal-is : (n k : ℕ) → IsDigitCount 10 1 n k → last_digits 10 k n ≡ decimal n
unfolding decimal
decimal-is n zero f = absurd (omega arith)
decimal-is n (suc k) f =
    let e : suc k - 1 ≡ k = omega arith in
    let above : 0 < k → 10 ^ k ≤ n = λ p. rw e at (f.2 (omega arith)) in
    digits_are n k n (⊎_elim (λ z. omega arith) (λ p. omega (arith, above p, above_power k)) (eq-zero-or-pos k)) f.1 above

-- a number of 64 bits has at most 20 digits
pub few-digits : (n k : ℕ) → n < 10 ^ 20 → IsDigitCount 10 1 n k → k ≤ 20
few-digits n k h f =
    ⊎_elim (λ e. omega arith)
    (λ l.
    let twenty : 20 ≤ k - 1 = omega arith in
    let most : 10 ^ 20 ≤ 10 ^ (k - 1) = pow-le-pow_right (omega arith) twenty in
    absurd (omega (arith, f.2 (omega arith))))
    (eq-zero-or-pos (k - 20))

-- the digits that were put are the number's
pub put-decimal : {old new : List ℕ} {at r : ℕ} (n k : ℕ) (d : List ℕ) → IsDigitCount 10 1 n k → take k d ≡ last_digits 10 k n → k ≤ length d → k ≤ 20
    → Put old at (take k d) (length (take k d)) new r → Put old at (decimal n) 20 new r
put-decimal n k d f e there few p =
    let len : length (take k d) ≤ 20 = rw (length-take-le k d there) few in
    rw (← decimal-is n k f, ← e) (record { placed = p.placed; ends = p.ends; short = len; same = p.same })
