-- Document 02, P1: a regular block file: blocks of each kind are full but the last, and no block is empty, except that a picture without
-- boxes has one box block of count 0. Assumes nothing.
use Rattle.std.specs.Prelude.{◌≡◌, List, ℕ, ◌<◌, get_or}
use Rattle.std.specs.Prelude.{None as none}
use Rattle.tables.specs.Rows.{Picture}
use Rattle.blocks.specs.Blocks.{head_of, capacity}
use Rattle.blocks.specs.Files.{block_count, block_at, file_fault, picture_of}

-- the kind and the record count of block k
abbrev pub kind_at : (file : List ℕ) (k : ℕ) → ℕ
kind_at file k = (head_of (block_at file k)).kind

abbrev pub count_at : (file : List ℕ) (k : ℕ) → ℕ
count_at file k = (head_of (block_at file k)).count

-- a block that another of its kind follows is full. Only block 0 may be empty: it is one of boxes, and if it is empty, so not full, no
-- other is one of boxes, and the picture has none
pub record Regular (file : List ℕ) : Type 0 where
  pub boxes-first : kind_at file 0 ≡ 1
  pub full-but-last : (k l : ℕ) → k < l → l < block_count file → kind_at file k ≡ kind_at file l → count_at file k ≡ capacity (kind_at file k)
  pub none-empty : (k : ℕ) → 0 < k → k < block_count file → 0 < count_at file k

-- a regular packing of a picture: a file of bytes that is good and regular and says the picture
pub record RegularPacking (pic : Picture) (file : List ℕ) : Type 0 where
  pub bytes : (i : ℕ) → get_or file i 0 < 256
  pub good : file_fault file ≡ none
  pub regular : Regular file
  pub says : picture_of file ≡ pic
