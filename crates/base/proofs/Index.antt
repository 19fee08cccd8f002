-- Where the byte of a pair stands in a table of m rows of n places. Assumes nothing.
use mathlib.Core.Path.{◌≡◌, sym, ap, ◌∙◌}
use Prim.Native.Nat.{ℕ, ◌+◌, ◌*◌, ◌/◌, ◌%◌, ◌-◌, ◌<◌, ◌≤◌}
use native.Mathlib.Nat.{suc-mul, mul-le-mul_left, mul-le-mul_right, le_trans, mul-add-div_right, mul-add-mod_self_right, div-eq_of_lt, mod-eq_of_lt, add-zero, div-add-mod, mul_comm}
use native.Mathlib.Numerals.{add-one}
use native.Mathlib.Omega.{arith}
use lib.Dec.{T, leb, leb→le}
use Rattle.base.specs.Search.{every}
use Rattle.base.proofs.SearchLaws.{every-at}

-- a row of n places ends before a later one begins
pub row_step : (n a c : ℕ) → a < c → a * n + n ≤ c * n
row_step n a c h = rw suc-mul at (mul-le-mul_right n h)

pub in_table : (m n a b : ℕ) → a < m → b < n → a * n + b < m * n
in_table m n a b h l = omega (arith, row_step n a m h)

pub at-div : (n a b : ℕ) → b < n → (a * n + b) / n ≡ a
at-div n a b l = mul-add-div_right (omega arith) a b ∙ rw (div-eq_of_lt l, add-zero)

pub at-mod : (n a b : ℕ) → b < n → (a * n + b) % n ≡ b
at-mod n a b l = mul-add-mod_self_right a n b ∙ mod-eq_of_lt l

pub same_row : (n a b c d : ℕ) → b < n → d < n → a * n + b ≡ c * n + d → a ≡ c
same_row n a b c d l l' e = sym (at-div n a b l) ∙ ap (λ (k : ℕ). k / n) e ∙ at-div n c d l'

pub same-col : (n a b c d : ℕ) → b < n → d < n → a * n + b ≡ c * n + d → b ≡ d
same-col n a b c d l l' e = sym (at-mod n a b l) ∙ ap (λ (k : ℕ). k % n) e ∙ at-mod n c d l'

-- each place is that of a pair
pub place : (n p : ℕ) → (p / n) * n + p % n ≡ p
place n p = rw (mul_comm (p / n) n) (div-add-mod p n)

pub next_row : (n i : ℕ) → (i + 1) * n ≡ i * n + n
next_row n i = rw (add-one, suc-mul)

-- 256 rows and columns make at most 128 × 128 places
pub few-places : (m n : ℕ) → m + n ≤ 256 → m * n ≤ 16384
unfolding every
few-places m n h =
    le_trans (mul-le-mul_left m (omega arith))
    (leb→le (m * (256 - m)) 16384 (every-at (λ k. leb (k * (256 - k)) 16384) 257 computed m (omega arith)))
  where
    computed : T (every (λ k. leb (k * (256 - k)) 16384) 257)
    computed = tt
