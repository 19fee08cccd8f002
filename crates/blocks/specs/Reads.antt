-- What reading a file into three lent tables answers. Assumes nothing.
use Rattle.std.specs.Prelude.{Result, Ok, Err, List, ℕ, ◌*◌, length}
use Rattle.std.specs.Prelude.{Option, None as none, Some as some}
use Rattle.base.specs.Search.{or_else}
use Rattle.tables.specs.Rows.{Picture, row_count, arrow_count}
use Rattle.tables.specs.Faults.{count_fault, room_fault}
use Rattle.tables.specs.declared.Refusal.{Refusal}
use Rattle.blocks.specs.Files.{file_fault, picture_of}
use Rattle.blocks.specs.declared.Counts.{Counts}

-- the three row counts
unfoldable pub row_counts : (pic : Picture) → Counts
row_counts pic = record { boxes = length pic.boxes; containments = row_count pic.rows; arrows = arrow_count pic.arrows }

-- 14, then for each block in turn 15, 16, 17, then 2, then 9, each for the lowest table or buffer: 5 boxes, 6 containments, 7 arrows
-- (numbers to be read)
unfoldable pub read_fault : (file boxes rows arrows : List ℕ) → Option Refusal
read_fault file boxes rows arrows =
    let counts = row_counts (picture_of file) in
    or_else (file_fault file)
    (or_else (count_fault counts.boxes counts.containments counts.arrows)
    (or_else (room_fault 5 (length boxes) counts.boxes)
    (or_else (room_fault 6 (length rows) (2 * counts.containments))
    (room_fault 7 (length arrows) (4 * counts.arrows)))))

-- the three row counts, or the refusal
abbrev pub answer_of : (fault : Option Refusal) (counts : Counts) → Result Counts Refusal
answer_of none counts = Ok counts
answer_of (some r) counts = Err r
