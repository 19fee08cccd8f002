-- What the functions ask of and promise each other: sets as bytes. Assumes nothing.
use Rattle.std.specs.Prelude.{◌≡◌, List, ℕ, ◌+◌, ◌*◌, ◌/◌, ◌%◌, ◌^◌, ◌<◌, ◌≤◌, length, get_or}

-- byte k of a word, the lowest first
unfoldable pub word_byte : (word k : ℕ) → ℕ
word_byte word k = word / 2 ^ (8 * k) % 256

-- byte q of set a of a table
unfoldable pub set_byte : (sets : List ℕ) (a q : ℕ) → ℕ
set_byte sets a q = word_byte (get_or sets (4 * a + q / 8) 0) (q % 8)

-- t is s with g 0, g 1, .. in m places from `at` on; places before these, and from `end` on, are as they were
pub record Laid (g : ℕ → ℕ) (at m end : ℕ) (s t : List ℕ) : Type 0 where
  pub len : length t ≡ length s
  pub place : (k : ℕ) → k < m → get_or t (at + k) 0 ≡ g k
  pub before : (i : ℕ) → i < at → get_or t i 0 ≡ get_or s i 0
  pub rest : (i : ℕ) → end ≤ i → get_or t i 0 ≡ get_or s i 0
