-- Document 01, "Block files": what a file says, and what is wrong with it. Assumes nothing.
use Rattle.std.specs.Prelude.{not, ◌||◌, List, ℕ, zero, suc, ◌*◌, ◌/◌, ◌%◌, eqb, ltb, length, take, drop}
use Rattle.std.specs.Prelude.{Option}
use Rattle.base.specs.Search.{or_else, given, first}
use Rattle.tables.specs.Rows.{Picture, picture}
use Rattle.tables.specs.declared.Refusal.TheVariants.{BadLength}
use Rattle.tables.specs.declared.Refusal.{Refusal}
use Rattle.blocks.specs.Blocks.{head_of, joined, said, block_fault}

-- a file's blocks of 512 bytes
abbrev pub block_count : (file : List ℕ) → ℕ
block_count file = length file / 512

unfoldable pub block_at : (file : List ℕ) (k : ℕ) → List ℕ
block_at file k = take 512 (drop (512 * k) file)

-- the kind of the block before block k, 0 where there is none
unfoldable pub kind_before : (blocks : ℕ → List ℕ) (k : ℕ) → ℕ
kind_before blocks zero = 0
kind_before blocks (suc k) = (head_of (blocks k)).kind

-- 14: file length 0, not a multiple of 512, or above 32,768
unfoldable pub length_fault : (len : ℕ) → Option Refusal
length_fault len = given (eqb len 0 || not (eqb (len % 512) 0) || ltb 32768 len) (BadLength len)

-- 14, then for each block in turn 15, 16, 17
unfoldable pub file_fault : (file : List ℕ) → Option Refusal
file_fault file =
    or_else (length_fault (length file)) (first (λ k. block_fault (kind_before (block_at file) k) k (block_at file k)) (block_count file))

-- the table of a kind: what the blocks say of it, in order
abbrev pub table_of : (kind : ℕ) (file : List ℕ) → List ℕ
table_of kind file = joined (λ k. said kind (block_at file k)) (block_count file)

-- what a file says: its three tables
abbrev pub picture_of : (file : List ℕ) → Picture
picture_of file = picture (table_of 1 file) (table_of 2 file) (table_of 3 file)
