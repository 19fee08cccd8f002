-- Which boxes are atomic. Assumes nothing.
use Rattle.std.specs.Prelude.{Bool, false, not, ◌&&◌, ◌||◌, List, [], ◌∷◌, ℕ, ◌*◌, eqb, length, get_or}
use Rattle.base.specs.Search.{select}
use Rattle.tables.specs.Rows.{user, file, is_group, on_side}

-- box b is the outer one of a row
unfoldable pub outer : (rows : List ℕ) (b : ℕ) → Bool
outer [] b = false
outer (x ∷ []) b = false
outer (x ∷ y ∷ rows) b = eqb x b || outer rows b

-- b is an atomic box of side s: no user group or folder, and the outer one of no row
unfoldable pub atom : (boxes rows : List ℕ) (s b : ℕ) → Bool
atom boxes rows s b = on_side boxes s b && not (is_group (get_or boxes b 0)) && not (outer rows b)

-- the atomic boxes of side s, by rising number
unfoldable pub atoms : (boxes rows : List ℕ) (s : ℕ) → List ℕ
atoms boxes rows s = select (atom boxes rows s) (length boxes)

-- how many pairs of an atomic user and an atomic file there are
unfoldable pub pair_count : (boxes rows : List ℕ) → ℕ
pair_count boxes rows = length (atoms boxes rows user) * length (atoms boxes rows file)
