-- A table of containments read from the last row to the first, and the outer boxes of one row more. Assumes nothing.
use mathlib.Core.Path.{◌≡◌, refl}
use mathlib.Core.Bool.{false, ◌||◌}
use mathlib.Core.List.{List, [], ◌∷◌}
use Prim.Native.Nat.{ℕ, suc, ◌*◌, ◌/◌, ◌%◌, ◌-◌, ◌<◌, ◌≤◌}
use native.Mathlib.Numerals.{add-one}
use native.Mathlib.Omega.{arith}
use lib.Dec.{eqb}
use lib.ListN.{length, drop}
use lib.Seq.{drop-cons, drop-length}
use Rattle.tables.specs.Rows.{row_count, row_at}
use Rattle.tables.specs.Atoms.{outer}

-- a table of whole rows ends after the last one
pub rows_end : (rows : List ℕ) → length rows % 2 ≡ 0 → drop (2 * row_count rows) rows ≡ []
rows_end rows even =
    let e : 2 * (length rows / 2) ≡ length rows = omega arith in
    rw (e, drop-length)

-- the rows from k - 1 on: row k - 1, and the rows from k on
pub rows-from : (rows : List ℕ) (k : ℕ) → 0 < k → k ≤ row_count rows
    → drop (2 * (k - 1)) rows ≡ (row_at rows (k - 1)).outer ∷ (row_at rows (k - 1)).inner ∷ drop (2 * k) rows
rows-from rows k pos h =
    let h₁ : 2 * (k - 1) < length rows = omega arith in
    let h₂ : suc (2 * (k - 1)) < length rows = omega arith in
    let e : suc (suc (2 * (k - 1))) ≡ 2 * k = omega arith in
    rw (drop-cons rows (2 * (k - 1)) 0, drop-cons rows (suc (2 * (k - 1))) 0, e, add-one)

-- the outer boxes of no row, of a number that is no row, and of one row more
pub outer-none : (b : ℕ) → outer [] b ≡ false
unfolding outer
outer-none b = refl

pub outer-odd : (x b : ℕ) → outer (x ∷ []) b ≡ false
unfolding outer
outer-odd x b = refl

pub outer-more : (x y : ℕ) (rows : List ℕ) (b : ℕ) → outer (x ∷ y ∷ rows) b ≡ (eqb x b || outer rows b)
unfolding outer
outer-more x y rows b = refl
