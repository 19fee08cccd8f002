-- Rows of bits, rounded up to bytes (document 02, P10). Assumes nothing.
use Rattle.std.specs.Prelude.{Bool, ℕ, zero, suc, ◌+◌, ◌*◌, ◌/◌}
use Rattle.base.specs.Steps.{bit}

-- the bytes of a row of n bits
unfoldable pub row_width : (n : ℕ) → ℕ
row_width n = (n + 7) / 8

-- n tests as the bits of a number: bit j, 0 is the lowest, is the test of j
unfoldable pub number : (test : ℕ → Bool) (n : ℕ) → ℕ
number test zero = 0
number test (suc n) = bit (test 0) + 2 * number (λ j. test (suc j)) n

-- byte q of row a: the tests of a and the eight numbers from 8 × q on
unfoldable pub row_bits : (test : ℕ → ℕ → Bool) (a q : ℕ) → ℕ
row_bits test a q = number (λ j. test a (8 * q + j)) 8
