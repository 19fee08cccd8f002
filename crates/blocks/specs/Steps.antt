-- What the inner functions of reading promise each other; what reading a file promises does not speak of it. Assumes nothing.
use Rattle.std.specs.Prelude.{◌≡◌, Result, Bool, true, cond, ◌&&◌, List, [], ◌∷◌, ℕ, ◌+◌, ◌*◌, eqb, get_or}
use Rattle.std.specs.Prelude.{Option}
use Rattle.base.specs.Search.{first, or_else}
use Rattle.tables.specs.Rows.{picture}
use Rattle.tables.specs.Refusals.{unless_refused}
use Rattle.tables.specs.Faults.{count_fault, room_fault}
use Rattle.tables.specs.declared.Refusal.{Refusal}
use Rattle.blocks.specs.Blocks.{number16, record_size, row_of, joined, said, block_fault}
use Rattle.blocks.specs.Files.{kind_before, picture_of}
use Rattle.blocks.specs.Reads.{row_counts, read_fault, answer_of}
use Rattle.blocks.specs.declared.Head.{Head}
use Rattle.blocks.specs.declared.records.BoxRecord.{BoxRecord}
use Rattle.blocks.specs.declared.records.ContainmentRecord.{ContainmentRecord}
use Rattle.blocks.specs.declared.records.ArrowRecord.{ArrowRecord}
use Rattle.blocks.specs.declared.Counts.{Counts}
use Rattle.blocks.specs.declared.records.Kind.{Kind}
use Rattle.blocks.specs.declared.records.Kind.TheVariants.{Boxes, Containments, Arrows}

-- the number of a kind
abbrev pub number_of : Kind → ℕ
number_of Boxes = 1
number_of Containments = 2
number_of Arrows = 3

-- the number of 32 bits that begins at a byte, little-endian
unfoldable pub number32 : (block : List ℕ) (at : ℕ) → ℕ
number32 block at = number16 block at + 65536 * number16 block (at + 2)

-- the byte after the records
unfoldable pub records_end : (head : Head) → ℕ
records_end head = 8 + record_size head.kind * head.count

-- how many records of a kind the block has
unfoldable pub count_of : (kind : ℕ) (head : Head) → ℕ
count_of kind head = cond (eqb head.kind kind) head.count 0

-- every byte is zero
unfoldable pub all_zero : (bytes : List ℕ) → Bool
all_zero [] = true
all_zero (x ∷ xs) = eqb x 0 && all_zero xs

-- record j of each kind, by the numbers of its row
unfoldable pub box_record : (block : List ℕ) (j : ℕ) → BoxRecord
box_record block j = record { side = get_or (row_of 1 block j) 0 0 }

unfoldable pub containment_record : (block : List ℕ) (j : ℕ) → ContainmentRecord
containment_record block j = record { outer = get_or (row_of 2 block j) 0 0; inner = get_or (row_of 2 block j) 1 0 }

unfoldable pub arrow_record : (block : List ℕ) (j : ℕ) → ArrowRecord
arrow_record block j = record {
  tail = get_or (row_of 3 block j) 0 0;
  head = get_or (row_of 3 block j) 1 0;
  mode = get_or (row_of 3 block j) 2 0;
  sign = get_or (row_of 3 block j) 3 0;
}

-- for each of n blocks in turn 15, 16, 17: `file_fault` has that of a file's blocks
unfoldable pub blocks_fault : (blocks : ℕ → List ℕ) (n : ℕ) → Option Refusal
blocks_fault blocks n = first (λ k. block_fault (kind_before blocks k) k (blocks k)) n

-- what n blocks say of the table of a kind: `table_of` is that of a file's blocks
abbrev pub table_in : (kind : ℕ) (blocks : ℕ → List ℕ) (n : ℕ) → List ℕ
table_in kind blocks n = joined (λ k. said kind (blocks k)) n

-- the row counts of what n blocks and of what a file say
abbrev pub counts_in : (blocks : ℕ → List ℕ) (n : ℕ) → Counts
counts_in blocks n = row_counts (picture (table_in 1 blocks n) (table_in 2 blocks n) (table_in 3 blocks n))

abbrev pub counts_of : (file : List ℕ) → Counts
counts_of file = row_counts (picture_of file)

-- no rows
abbrev pub no_counts : Counts
no_counts = record { boxes = 0; containments = 0; arrows = 0 }

-- the row counts with one block more
unfoldable pub counts_with : (counts : Counts) (head : Head) → Counts
counts_with counts head = record {
  boxes = counts.boxes + count_of 1 head;
  containments = counts.containments + count_of 2 head;
  arrows = counts.arrows + count_of 3 head;
}

-- 2, then 9, by the row counts: what `read_fault` finds in a good file
unfoldable pub tables_fault : (counts : Counts) (boxes rows arrows : ℕ) → Option Refusal
tables_fault counts boxes rows arrows =
    or_else (count_fault counts.boxes counts.containments counts.arrows)
    (or_else (room_fault 5 boxes counts.boxes)
    (or_else (room_fault 6 rows (2 * counts.containments))
    (room_fault 7 arrows (4 * counts.arrows))))

-- what reading promises of its answer and of the three tables at the end, in the words of its contract
abbrev pub ReadDone : (file boxes rows arrows boxes_end rows_end arrows_end : List ℕ) (r : Result Counts Refusal) → Type 0
ReadDone file boxes rows arrows boxes_end rows_end arrows_end r =
    let fault = read_fault file boxes rows arrows in
    (r ≡ answer_of fault (row_counts (picture_of file)))
    × ((boxes_end ≡ unless_refused fault (picture_of file).boxes boxes)
    × ((rows_end ≡ unless_refused fault (picture_of file).rows rows)
    × (arrows_end ≡ unless_refused fault (picture_of file).arrows arrows)))
