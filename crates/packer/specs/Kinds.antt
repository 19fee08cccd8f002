-- What the functions inside packing ask of and promise each other: the blocks of a kind. What `pack` promises does not speak of them.
-- Assumes nothing.
use Rattle.std.specs.Prelude.{◌≡◌, List, ℕ, ◌+◌, ◌*◌, ◌-◌, ◌<◌, ◌≤◌}
use Rattle.packing.specs.Packed.{block_of, least}
use Rattle.block_parts.specs.Walks.{walk_at}
use Rattle.block_parts.specs.declared.Walk.{Walk}

-- a kind's number, the bytes of a record, how many records a block holds, how many rows there are, the number of the first block, and a
-- row as a record
pub record Kind : Type 0 where
  pub number : ℕ
  pub size : ℕ
  pub capacity : ℕ
  pub rows : ℕ
  pub first : ℕ
  pub bytes : ℕ → List ℕ

abbrev pub kind_of : (number size capacity rows first : ℕ) (bytes : ℕ → List ℕ) → Kind
kind_of number size capacity rows first bytes =
    record { number = number; size = size; capacity = capacity; rows = rows; first = first; bytes = bytes }

-- the byte of the file at which the walk's block begins
abbrev pub block_byte : (kind : Kind) (w : Walk) → ℕ
block_byte kind w = 512 * (kind.first + w.block)

-- block k of a kind: it is full, or has the rows that are left
unfoldable pub block_in : (kind : Kind) (k : ℕ) → List ℕ
block_in kind k =
    block_of kind.number (kind.first + k) (least (kind.rows - kind.capacity * k) kind.capacity) (λ j. kind.bytes (kind.capacity * k + j))

-- the walk stands at the first place of a block that a file of so many bytes has, and as many rows follow as the block has records
pub record Begins (kind : Kind) (len : ℕ) (w : Walk) (count : ℕ) : Type 0 where
  pub few : kind.rows ≤ 1024
  pub rows_left : w.row + count ≤ kind.rows
  pub most : count ≤ kind.capacity
  pub walked : w ≡ walk_at kind.capacity w.row
  pub the-place : w.place ≡ 0
  pub the_block : kind.first + w.block < 64
  pub room : block_byte kind w + 512 ≤ len

-- so many blocks, each but the last full, have room from the first one on in a file of so many bytes
pub record BlocksFit (kind : Kind) (blocks len : ℕ) : Type 0 where
  pub few : kind.rows ≤ 1024
  pub full : kind.capacity * blocks ≤ kind.rows + kind.capacity
  pub numbers : kind.first + blocks ≤ 64
  pub room : 512 * (kind.first + blocks) ≤ len
