-- What each check asks, for the functions that make it. Assumes nothing.
use mathlib.Core.Path.{◌≡◌, refl}
use mathlib.Core.Bool.{Bool, not, ◌&&◌, ◌||◌}
use mathlib.Core.List.{List}
use Prim.Native.Nat.{ℕ, ◌%◌}
use lib.Dec.{eqb, ltb, leb}
use lib.ListN.{length, get_or}
use Rattle.base.specs.Search.{or_else, given, first}
use Rattle.tables.specs.Rows.{picture, user, file, side_of, on_side, row_count, row_at, arrow_count, arrow_at}
use Rattle.tables.specs.declared.Refusal.TheVariants.{Ragged, TooMany, BadByte, NoBox, AcrossSides, WrongEnds, WrongMode, NoMode, TooShort}
use Rattle.tables.specs.declared.Refusal.{Refusal}
use Rattle.tables.specs.Faults.{ragged_fault, count_fault, byte_fault, names_no_box, across_sides, wrong_ends, wrong_mode}
use Rattle.tables.specs.Faults.{row_fault, table_fault, mode_fault, room_fault}
use Rattle.tables.specs.declared.Containment.{Containment}
use Rattle.tables.specs.declared.Arrow.{Arrow}

-- ---- 1 and 2, by counts

pub ragged_fault-is : (rows arrows : ℕ)
    → ragged_fault rows arrows ≡ or_else (given (not (eqb (rows % 2) 0)) (Ragged 1 rows)) (given (not (eqb (arrows % 4) 0)) (Ragged 2 arrows))
unfolding ragged_fault
ragged_fault-is rows arrows = refl

pub count_fault-is : (boxes rows arrows : ℕ)
    → count_fault boxes rows arrows
    ≡ or_else (given (ltb 256 boxes) (TooMany 0 boxes)) (or_else (given (ltb 1024 rows) (TooMany 1 rows)) (given (ltb 512 arrows) (TooMany 2 arrows)))
unfolding count_fault
count_fault-is boxes rows arrows = refl

-- ---- 3, by boxes

pub byte_fault-is : (boxes : List ℕ) → byte_fault boxes ≡ first (λ b. given (ltb 3 (get_or boxes b 0)) (BadByte b)) (length boxes)
unfolding byte_fault
byte_fault-is boxes = refl

-- ---- 4 to 7, by rows

module _ (boxes : List ℕ) (r : Containment) where
  pub names_no_box-is : names_no_box boxes r ≡ (leb (length boxes) r.outer || leb (length boxes) r.inner)
  unfolding names_no_box
  names_no_box-is = refl

  pub across_sides-is : across_sides boxes r
      ≡ (not (names_no_box boxes r) && not (eqb (side_of (get_or boxes r.outer 0)) (side_of (get_or boxes r.inner 0))))
  unfolding across_sides
  across_sides-is = refl

pub wrong_ends-is : (boxes : List ℕ) (a : Arrow) → wrong_ends boxes a ≡ not (on_side boxes user a.tail && on_side boxes file a.head)
unfolding wrong_ends
wrong_ends-is boxes a = refl

pub wrong_mode-is : (a : Arrow) → wrong_mode a ≡ (ltb 7 a.mode || ltb 1 a.sign)
unfolding wrong_mode
wrong_mode-is a = refl

pub row_fault-is : (refusal : ℕ → Refusal) (bad : ℕ → Bool) (count : ℕ) → row_fault refusal bad count ≡ first (λ k. given (bad k) (refusal k)) count
unfolding row_fault
row_fault-is refusal bad count = refl

-- 1 to 7, one after the other
pub table_fault-is : (boxes rows arrows : List ℕ) → table_fault (picture boxes rows arrows)
    ≡ or_else (ragged_fault (length rows) (length arrows))
    (or_else (count_fault (length boxes) (row_count rows) (arrow_count arrows))
    (or_else (byte_fault boxes)
    (or_else (row_fault NoBox (λ k. names_no_box boxes (row_at rows k)) (row_count rows))
    (or_else (row_fault AcrossSides (λ k. across_sides boxes (row_at rows k)) (row_count rows))
    (or_else (row_fault WrongEnds (λ k. wrong_ends boxes (arrow_at arrows k)) (arrow_count arrows))
    (row_fault WrongMode (λ k. wrong_mode (arrow_at arrows k)) (arrow_count arrows)))))))
unfolding table_fault
table_fault-is boxes rows arrows = refl

-- ---- 8 and 9

pub mode_fault-is : (mode : ℕ) → mode_fault mode ≡ given (ltb 7 mode) (NoMode mode)
unfolding mode_fault
mode_fault-is mode = refl

pub room_fault-is : (buffer have need : ℕ) → room_fault buffer have need ≡ given (ltb have need) (TooShort buffer need)
unfolding room_fault
room_fault-is buffer have need = refl
