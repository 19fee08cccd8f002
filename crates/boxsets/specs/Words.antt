-- The bits of a word. Assumes nothing.
use Rattle.std.specs.Prelude.{Bool, ℕ, zero, suc, ◌/◌, ◌%◌, eqb}

-- bit b of a word, the lowest first
unfoldable pub bit_at : ℕ → ℕ → Bool
bit_at w zero = eqb (w % 2) 1
bit_at w (suc b) = bit_at (w / 2) b
