-- Rows of places. Assumes nothing.
use Rattle.std.specs.Prelude.{◌≡◌, List, ℕ, ◌+◌, ◌*◌, ◌/◌, ◌%◌, ◌<◌, ◌≤◌, length, get_or}
use Rattle.base.specs.Buffers.{build}

-- m rows of w places: place a × w + q is g a q
unfoldable pub grid : (g : ℕ → ℕ → ℕ) (m w : ℕ) → List ℕ
grid g m w = build (λ p. g (p / w) (p % w)) (m * w)

-- m rows of w places: place a × w + q holds g a q
abbrev pub InRows : (m w : ℕ) (g : ℕ → ℕ → ℕ) (s : List ℕ) → Type 0
InRows m w g s = (a q : ℕ) → a < m → q < w → get_or s (a * w + q) 0 ≡ g a q

-- t has as many places as s, and the same from m on
pub record SameFrom (m : ℕ) (s t : List ℕ) : Type 0 where
  pub len : length t ≡ length s
  pub rest : (p : ℕ) → m ≤ p → get_or t p 0 ≡ get_or s p 0
