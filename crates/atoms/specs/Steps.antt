-- What the functions ask of and promise each other. Assumes nothing.
use Rattle.std.specs.Prelude.{◌≡◌, Bool, not, ◌&&◌, List, ℕ, ◌<◌, eqb, length, get_or}
use Rattle.base.specs.Steps.{bit}
use Rattle.tables.specs.Rows.{is_group, on_side}

-- b is a box of the side and no group, and its mark is 0
unfoldable pub unmarked : (boxes : List ℕ) (side : ℕ) (marks : List ℕ) (b : ℕ) → Bool
unmarked boxes side marks b = on_side boxes side b && not (is_group (get_or boxes b 0)) && eqb (get_or marks b 0) 0

-- byte b is 1 if f b, else 0: how outer boxes are marked while atomic ones are looked for
abbrev pub Marks : (f : ℕ → Bool) (marks : List ℕ) → Type 0
Marks f marks = (b : ℕ) → b < length marks → get_or marks b 0 ≡ bit (f b)
