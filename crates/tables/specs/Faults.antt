-- Checks 1 to 7 on the three tables of a picture, 8, and 9 for one buffer. Assumes nothing.
use Rattle.std.specs.Prelude.{Bool, not, ◌&&◌, ◌||◌, List, ℕ, ◌%◌, eqb, ltb, leb, length, get_or}
use Rattle.std.specs.Prelude.{Option}
use Rattle.base.specs.Search.{or_else, given, first}
use Rattle.tables.specs.Rows.{Picture, user, file, side_of, on_side, row_count, row_at, arrow_count, arrow_at}
use Rattle.tables.specs.declared.Refusal.TheVariants.{Ragged, TooMany, BadByte, NoBox, AcrossSides, WrongEnds, WrongMode, NoMode, TooShort}
use Rattle.tables.specs.declared.Refusal.{Refusal}
use Rattle.tables.specs.declared.Containment.{Containment}
use Rattle.tables.specs.declared.Arrow.{Arrow}

-- 1: a table whose length is no whole number of rows
unfoldable pub ragged_fault : (rows arrows : ℕ) → Option Refusal
ragged_fault rows arrows = or_else (given (not (eqb (rows % 2) 0)) (Ragged 1 rows)) (given (not (eqb (arrows % 4) 0)) (Ragged 2 arrows))

-- 2: at most 256 boxes, 1,024 containments, 512 arrows
unfoldable pub count_fault : (boxes rows arrows : ℕ) → Option Refusal
count_fault boxes rows arrows =
    or_else (given (ltb 256 boxes) (TooMany 0 boxes))
    (or_else (given (ltb 1024 rows) (TooMany 1 rows))
    (given (ltb 512 arrows) (TooMany 2 arrows)))

-- 3: a box byte above 3
unfoldable pub byte_fault : (boxes : List ℕ) → Option Refusal
byte_fault boxes = first (λ b. given (ltb 3 (get_or boxes b 0)) (BadByte b)) (length boxes)

-- 4: a containment naming a box that isn't there
unfoldable pub names_no_box : (boxes : List ℕ) (r : Containment) → Bool
names_no_box boxes r = leb (length boxes) r.outer || leb (length boxes) r.inner

-- 5: a containment across sides: its boxes are there, and on two sides
unfoldable pub across_sides : (boxes : List ℕ) (r : Containment) → Bool
across_sides boxes r = not (names_no_box boxes r) && not (eqb (side_of (get_or boxes r.outer 0)) (side_of (get_or boxes r.inner 0)))

-- 6: an arrow whose tail is no user box or head no file box
unfoldable pub wrong_ends : (boxes : List ℕ) (a : Arrow) → Bool
wrong_ends boxes a = not (on_side boxes user a.tail && on_side boxes file a.head)

-- 7: an arrow mode above 7 or sign above 1
unfoldable pub wrong_mode : (a : Arrow) → Bool
wrong_mode a = ltb 7 a.mode || ltb 1 a.sign

-- the lowest row of a table that fails a check of 4 to 7
unfoldable pub row_fault : (refusal : ℕ → Refusal) (bad : ℕ → Bool) (count : ℕ) → Option Refusal
row_fault refusal bad count = first (λ k. given (bad k) (refusal k)) count

-- checks 1 to 7: a lower number wins, and within it the lower table, row or box
unfoldable pub table_fault : (pic : Picture) → Option Refusal
table_fault pic =
    or_else (ragged_fault (length pic.rows) (length pic.arrows))
    (or_else (count_fault (length pic.boxes) (row_count pic.rows) (arrow_count pic.arrows))
    (or_else (byte_fault pic.boxes)
    (or_else (row_fault NoBox (λ k. names_no_box pic.boxes (row_at pic.rows k)) (row_count pic.rows))
    (or_else (row_fault AcrossSides (λ k. across_sides pic.boxes (row_at pic.rows k)) (row_count pic.rows))
    (or_else (row_fault WrongEnds (λ k. wrong_ends pic.boxes (arrow_at pic.arrows k)) (arrow_count pic.arrows))
    (row_fault WrongMode (λ k. wrong_mode (arrow_at pic.arrows k)) (arrow_count pic.arrows)))))))

-- 8: the asked mode
unfoldable pub mode_fault : (mode : ℕ) → Option Refusal
mode_fault mode = given (ltb 7 mode) (NoMode mode)

-- 9: a buffer that is too short
unfoldable pub room_fault : (buffer have need : ℕ) → Option Refusal
room_fault buffer have need = given (ltb have need) (TooShort buffer need)
