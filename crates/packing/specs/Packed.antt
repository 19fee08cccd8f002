-- Document 02, P1: the one regular packing of a picture as a block file. Blocks of each kind are full but the last, and none is
-- empty, except that a picture without boxes has one box block of count 0. Assumes nothing.
use Rattle.std.specs.Prelude.{cond, ◌&&◌, List, [], ◌∷◌, ◌++◌, ℕ, ◌+◌, ◌*◌, ◌-◌, ◌/◌, ◌%◌, eqb, ltb, length, get_or}
use Rattle.base.specs.Buffers.{zeros}
use Rattle.tables.specs.Rows.{Picture, row_count, row_at, arrow_count, arrow_at}
use Rattle.blocks.specs.Fnv.{fnv1a}
use Rattle.blocks.specs.Blocks.{by_kind, capacity, record_size, joined}

-- a number of 16 and one of 32 bits as bytes, little-endian
unfoldable pub bytes16 : (x : ℕ) → List ℕ
bytes16 x = x % 256 ∷ x / 256 ∷ []

unfoldable pub bytes32 : (x : ℕ) → List ℕ
bytes32 x = bytes16 (x % 65536) ++ bytes16 (x / 65536)

-- row i of each table as a record: 1 byte; two 16-bit numbers; two 16-bit numbers, mode, sign. The low byte is all of a mode and of a
-- sign: 7 refuses a mode above 7 and a sign above 1
unfoldable pub box_bytes : (boxes : List ℕ) (i : ℕ) → List ℕ
box_bytes boxes i = get_or boxes i 0 ∷ []

unfoldable pub containment_bytes : (rows : List ℕ) (i : ℕ) → List ℕ
containment_bytes rows i = bytes16 (row_at rows i).outer ++ bytes16 (row_at rows i).inner

unfoldable pub arrow_bytes : (arrows : List ℕ) (i : ℕ) → List ℕ
arrow_bytes arrows i =
    bytes16 (arrow_at arrows i).tail
    ++ (bytes16 (arrow_at arrows i).head ++ ((arrow_at arrows i).mode % 256 ∷ (arrow_at arrows i).sign % 256 ∷ []))

-- a head: byte 0 kind, byte 1 zero, bytes 2 and 3 block number, bytes 4 and 5 record count, bytes 6 and 7 zero
unfoldable pub head_bytes : (kind number count : ℕ) → List ℕ
head_bytes kind number count = kind ∷ 0 ∷ (bytes16 number ++ (bytes16 count ++ (0 ∷ 0 ∷ [])))

-- bytes 0 to 507: the head, the records from byte 8, zero filler
unfoldable pub covered : (kind number count : ℕ) → (ℕ → List ℕ) → List ℕ
covered kind number count records =
    head_bytes kind number count ++ (joined records count ++ zeros (500 - record_size kind * count))

-- a block: bytes 0 to 507, then their check
unfoldable pub block_of : (kind number count : ℕ) → (ℕ → List ℕ) → List ℕ
block_of kind number count records =
    covered kind number count records ++ bytes32 (fnv1a (covered kind number count records))

-- the smaller of two
unfoldable pub least : (a b : ℕ) → ℕ
least a b = cond (ltb a b) a b

-- how many blocks so many rows fill, the last one full or not
unfoldable pub blocks_for : (capacity rows : ℕ) → ℕ
blocks_for capacity rows = (rows + (capacity - 1)) / capacity

module _ (pic : Picture) where
  -- how many rows a kind's table has
  unfoldable pub rows_of : (kind : ℕ) → ℕ
  rows_of kind = by_kind kind (length pic.boxes) (row_count pic.rows) (arrow_count pic.arrows)

  -- row i of a kind's table as a record
  unfoldable pub record_bytes : (kind i : ℕ) → List ℕ
  record_bytes kind i =
      cond (eqb kind 1) (box_bytes pic.boxes i) (cond (eqb kind 2) (containment_bytes pic.rows i) (arrow_bytes pic.arrows i))

  -- how many blocks a kind has: as many as its rows fill, and of boxes at least one
  unfoldable pub blocks_of : (kind : ℕ) → ℕ
  blocks_of kind = cond (eqb kind 1 && eqb (rows_of kind) 0) 1 (blocks_for (capacity kind) (rows_of kind))

  -- the number of a kind's first block: box blocks, then containment blocks, then arrow blocks
  unfoldable pub first_of : (kind : ℕ) → ℕ
  first_of kind = by_kind kind 0 (blocks_of 1) (blocks_of 1 + blocks_of 2)

  -- how many records block k of a kind has: it is full, or has the rows that are left
  unfoldable pub count_in : (kind k : ℕ) → ℕ
  count_in kind k = least (rows_of kind - capacity kind * k) (capacity kind)

  -- block k of a kind
  unfoldable pub kind_block : (kind k : ℕ) → List ℕ
  kind_block kind k = block_of kind (first_of kind + k) (count_in kind k) (λ j. record_bytes kind (capacity kind * k + j))

  -- the blocks of a kind
  unfoldable pub kind_bytes : (kind : ℕ) → List ℕ
  kind_bytes kind = joined (kind_block kind) (blocks_of kind)

  -- the file
  unfoldable pub packed : List ℕ
  packed = kind_bytes 1 ++ (kind_bytes 2 ++ kind_bytes 3)
