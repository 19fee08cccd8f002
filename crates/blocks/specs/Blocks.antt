-- Document 01, "Block files": what a block of 512 bytes says, and what is wrong with it. Assumes nothing.
use Rattle.std.specs.Prelude.{Bool, not, cond, ◌||◌, List, [], ◌∷◌, ◌++◌, ℕ, zero, suc, ◌+◌, ◌*◌, eqb, ltb, leb, get_or, take}
use Rattle.std.specs.Prelude.{Option}
use Rattle.base.specs.Search.{implies, or_else, given, every}
use Rattle.tables.specs.declared.Refusal.{Refusal}
use Rattle.tables.specs.declared.Refusal.TheVariants.{BadCheck, BadHead, BadFiller}
use Rattle.blocks.specs.Fnv.{fnv1a}
use Rattle.blocks.specs.declared.Head.{Head}

-- the number of 16 bits that begins at a byte, little-endian
unfoldable pub number16 : (block : List ℕ) (at : ℕ) → ℕ
number16 block at = get_or block at 0 + 256 * get_or block (at + 1) 0

-- byte 0 kind, byte 1 zero, bytes 2 and 3 block number, bytes 4 and 5 record count, bytes 6 and 7 zero
unfoldable pub head_of : (block : List ℕ) → Head
head_of block = record {
  kind = get_or block 0 0;
  byte1 = get_or block 1 0;
  number = number16 block 2;
  count = number16 block 4;
  byte6 = get_or block 6 0;
  byte7 = get_or block 7 0;
}

-- by kind: 1 boxes, 2 containments, 3 arrows
unfoldable pub by_kind : (kind boxes containments arrows : ℕ) → ℕ
by_kind kind boxes containments arrows = cond (eqb kind 1) boxes (cond (eqb kind 2) containments (cond (eqb kind 3) arrows 0))

-- how many records a block holds at most, and how many bytes each has
unfoldable pub capacity : (kind : ℕ) → ℕ
capacity kind = by_kind kind 500 125 83

unfoldable pub record_size : (kind : ℕ) → ℕ
record_size kind = by_kind kind 1 4 6

-- record j of a block of a kind, as the numbers of its table's row. Records from byte 8: a box 1 byte, a containment two 16-bit numbers,
-- an arrow two 16-bit numbers, mode, sign
unfoldable pub row_of : (kind : ℕ) (block : List ℕ) (j : ℕ) → List ℕ
row_of kind block j =
    let at = 8 + record_size kind * j in
    cond (eqb kind 1) (get_or block at 0 ∷ [])
    (cond (eqb kind 2) (number16 block at ∷ number16 block (at + 2) ∷ [])
    (number16 block at ∷ number16 block (at + 2) ∷ get_or block (at + 4) 0 ∷ get_or block (at + 5) 0 ∷ []))

-- f 0, f 1, .., n lists one after the other
unfoldable pub joined : (f : ℕ → List ℕ) (n : ℕ) → List ℕ
joined f zero = []
joined f (suc n) = joined f n ++ f n

-- what a block says of the table of a kind: the rows of its records, in order, if it is of that kind, else nothing
unfoldable pub said : (kind : ℕ) (block : List ℕ) → List ℕ
said kind block = cond (eqb (head_of block).kind kind) (joined (row_of kind block) (head_of block).count) []

-- 15: the check in bytes 508 to 511 isn't that of bytes 0 to 507
unfoldable pub wrong_check : (block : List ℕ) → Bool
wrong_check block = not (eqb (fnv1a (take 508 block)) (number16 block 508 + 65536 * number16 block 510))

-- 16: its kind is not 1 to 3 or is below the kind of the block before, byte 1, 6 or 7 is not zero, the block number
-- isn't the block's place in the file, or the count is above the capacity of its kind
unfoldable pub wrong_head : (before place : ℕ) (head : Head) → Bool
wrong_head before place head =
    ltb head.kind 1 || ltb 3 head.kind || ltb head.kind before
    || not (eqb head.byte1 0) || not (eqb head.byte6 0) || not (eqb head.byte7 0)
    || not (eqb head.number place) || ltb (capacity head.kind) head.count

-- 17: a byte of the filler, from behind the records to byte 507, is not zero
unfoldable pub wrong_filler : (head : Head) (block : List ℕ) → Bool
wrong_filler head block = not (every (λ k. implies (leb (8 + record_size head.kind * head.count) k) (eqb (get_or block k 0) 0)) 508)

-- 15, 16, 17 of the block at a place, by the kind of the block before
unfoldable pub block_fault : (before place : ℕ) (block : List ℕ) → Option Refusal
block_fault before place block =
    or_else (given (wrong_check block) (BadCheck place))
    (or_else (given (wrong_head before place (head_of block)) (BadHead place))
    (given (wrong_filler (head_of block) block) (BadFiller place)))
