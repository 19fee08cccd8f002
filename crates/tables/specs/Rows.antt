-- The three lent tables of a picture (document 01, "The picture and its tables"; bytes 2 and 3 of boxes: document 02, P6).
-- Assumes nothing.
use Rattle.std.specs.Prelude.{Bool, ◌&&◌, List, ℕ, ◌+◌, ◌*◌, ◌/◌, ◌%◌, eqb, ltb, leb, length, get_or}
use Rattle.tables.specs.declared.Tables.{Tables}
use Rattle.tables.specs.declared.Containment.{Containment}
use Rattle.tables.specs.declared.Arrow.{Arrow}

-- a picture is three lent tables
pub record Picture : Type 0 where
  pub boxes : List ℕ
  pub rows : List ℕ
  pub arrows : List ℕ

abbrev pub picture : (boxes rows arrows : List ℕ) → Picture
picture boxes rows arrows = record { boxes = boxes; rows = rows; arrows = arrows }

-- the picture that lent tables show
abbrev pub shown : (t : Tables) → Picture
shown t = picture t.boxes.now t.rows.now t.arrows.now

-- the two sides, which are bytes of boxes too
abbrev pub user : ℕ
user = 0

abbrev pub file : ℕ
file = 1

-- the side that a box's byte puts it on: 2 counts as user, 3 as file
unfoldable pub side_of : (byte : ℕ) → ℕ
side_of byte = byte % 2

-- the byte is that of a user group, 2, or a folder, 3; one above 3 is refused
unfoldable pub is_group : (byte : ℕ) → Bool
is_group byte = leb 2 byte

-- b is a box of side s
unfoldable pub on_side : (boxes : List ℕ) (s b : ℕ) → Bool
on_side boxes s b = ltb b (length boxes) && eqb (side_of (get_or boxes b 0)) s

-- containments: outer box, then inner box
abbrev pub row_count : (rows : List ℕ) → ℕ
row_count rows = length rows / 2

abbrev pub row_at : (rows : List ℕ) (k : ℕ) → Containment
row_at rows k = record { outer = get_or rows (2 * k) 0; inner = get_or rows (2 * k + 1) 0 }

-- the number that stands where there is no arrow
abbrev pub no_arrow : ℕ
no_arrow = 65535

-- arrows: tail, head, mode, sign
abbrev pub arrow_count : (arrows : List ℕ) → ℕ
arrow_count arrows = length arrows / 4

abbrev pub arrow_at : (arrows : List ℕ) (k : ℕ) → Arrow
arrow_at arrows k = record {
  tail = get_or arrows (4 * k) 0;
  head = get_or arrows (4 * k + 1) 0;
  mode = get_or arrows (4 * k + 2) 0;
  sign = get_or arrows (4 * k + 3) 0;
}
