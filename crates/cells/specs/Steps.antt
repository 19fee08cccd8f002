-- What the functions ask of and promise each other. Assumes nothing.
use Rattle.std.specs.Prelude.{◌≡◌, ◌⊎◌, cond, List, ℕ, ◌+◌, ◌<◌, ◌≤◌, length, get_or}
use Rattle.boxsets.specs.Sets.{is_in}
use Rattle.user_rows.specs.declared.Row.{Row}

-- the byte of a file in the matrix, by the row of its user: 1 granted, 2 unclear, 0 denied
unfoldable pub byte_in : (row : Row) (f : ℕ) → ℕ
byte_in row f = cond (is_in row.granted f) 1 (cond (is_in row.unclear f) 2 0)

-- the places from `at` on hold g 0, g 1, .., n of them; others are as they were
pub record Emitted (g : ℕ → ℕ) (at n : ℕ) (old new : List ℕ) : Type 0 where
  pub len : length new ≡ length old
  pub hit : (j : ℕ) → j < n → get_or new (at + j) 0 ≡ g j
  pub miss : (p : ℕ) → (p < at) ⊎ (at + n ≤ p) → get_or new p 0 ≡ get_or old p 0

-- n places from `at` on hold what n from `from` on held; others are as they were
pub record Copied {X : Type 0} (from at n : ℕ) (old new : List X) : Type 0 where
  pub len : length new ≡ length old
  pub hit : (j : ℕ) (d : X) → j < n → get_or new (at + j) d ≡ get_or old (from + j) d
  pub miss : (p : ℕ) (d : X) → (p < at) ⊎ (at + n ≤ p) → get_or new p d ≡ get_or old p d
