-- What the functions ask of and promise each other. Assumes nothing.
use Rattle.std.specs.Prelude.{Bool, ◌&&◌, List, ℕ, ◌<◌, ◌≤◌, eqb}
use Rattle.base.specs.Steps.{any_below}
use Rattle.tables.specs.Rows.{arrow_count, arrow_at}
use Rattle.meaning.specs.Meaning.{has_mode}

-- arrows whose modes and signs are small
abbrev pub Signed : (arrows : List ℕ) → Type 0
Signed arrows = (k : ℕ) → k < arrow_count arrows → ((arrow_at arrows k).mode ≤ 7) × ((arrow_at arrows k).sign ≤ 1)

-- an arrow below n has the mode and the sign
unfoldable pub sign_below : (arrows : List ℕ) (n mode sign : ℕ) → Bool
sign_below arrows n mode sign = any_below (λ k. has_mode arrows mode k && eqb (arrow_at arrows k).sign sign) n

-- of all
abbrev pub sign_used : (arrows : List ℕ) (mode sign : ℕ) → Bool
sign_used arrows mode sign = sign_below arrows (arrow_count arrows) mode sign
