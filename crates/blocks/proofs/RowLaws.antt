-- The rows that a block says of each table: by its bytes and by its records. Assumes nothing.
use mathlib.Core.Path.{◌≡◌, refl}
use mathlib.Core.Bool.{Bool, true, false, cond}
use mathlib.Core.List.{List, [], ◌∷◌}
use Prim.Native.Nat.{ℕ, ◌+◌, ◌*◌}
use native.Mathlib.Omega.{arith}
use lib.Dec.{eqb}
use lib.ListN.{length, get_or}
use Rattle.blocks.specs.Blocks.{number16, head_of, by_kind, record_size, row_of, joined, said}
use Rattle.blocks.specs.Steps.{count_of, box_record, containment_record, arrow_record}

-- the numbers of record j by the block's bytes
pub box-row-is : (block : List ℕ) (j : ℕ) → row_of 1 block j ≡ get_or block (8 + j) 0 ∷ []
unfolding row_of record_size by_kind
box-row-is block j = let e : 8 + 1 * j ≡ 8 + j = omega arith in rw e

pub containment-row-is : (block : List ℕ) (j : ℕ) → row_of 2 block j ≡ number16 block (8 + 4 * j) ∷ number16 block (10 + 4 * j) ∷ []
unfolding row_of record_size by_kind
containment-row-is block j = let e : 8 + 4 * j + 2 ≡ 10 + 4 * j = omega arith in rw e

pub arrow-row-is : (block : List ℕ) (j : ℕ) → row_of 3 block j
    ≡ number16 block (8 + 6 * j) ∷ number16 block (10 + 6 * j) ∷ get_or block (12 + 6 * j) 0 ∷ get_or block (13 + 6 * j) 0 ∷ []
unfolding row_of record_size by_kind
arrow-row-is block j =
    let e : 8 + 6 * j + 2 ≡ 10 + 6 * j = omega arith in
    let f : 8 + 6 * j + 4 ≡ 12 + 6 * j = omega arith in
    let g : 8 + 6 * j + 5 ≡ 13 + 6 * j = omega arith in
    rw (e, f, g)

-- a record has those numbers
pub box-record : (block : List ℕ) (j : ℕ) → box_record block j ≡ record { side = get_or block (8 + j) 0 }
unfolding box_record
box-record block j = rw (box-row-is block j)

pub containment-record : (block : List ℕ) (j : ℕ)
    → containment_record block j ≡ record { outer = number16 block (8 + 4 * j); inner = number16 block (10 + 4 * j) }
unfolding containment_record
containment-record block j = rw (containment-row-is block j)

pub arrow-record : (block : List ℕ) (j : ℕ) → arrow_record block j
    ≡ record {
      tail = number16 block (8 + 6 * j);
      head = number16 block (10 + 6 * j);
      mode = get_or block (12 + 6 * j) 0;
      sign = get_or block (13 + 6 * j) 0;
    }
unfolding arrow_record
arrow-record block j = rw (arrow-row-is block j)

module _ (block : List ℕ) where
  -- as many rows as the block has records of the table's kind
  pub said-is : (kind : ℕ) → said kind block ≡ joined (row_of kind block) (count_of kind (head_of block))
  unfolding said count_of joined
  said-is kind = go (eqb (head_of block).kind kind)
    where
      go : (t : Bool) → cond t (joined (row_of kind block) (head_of block).count) [] ≡ joined (row_of kind block) (cond t (head_of block).count 0)
      go true = refl
      go false = refl

  module _ (j : ℕ) where
    -- the row of a record by the record
    pub box-numbers : row_of 1 block j ≡ (box_record block j).side ∷ []
    unfolding box_record row_of record_size by_kind
    box-numbers = refl

    pub containment-numbers : row_of 2 block j ≡ (containment_record block j).outer ∷ (containment_record block j).inner ∷ []
    unfolding containment_record row_of record_size by_kind
    containment-numbers = refl

    pub arrow-numbers : row_of 3 block j
        ≡ (arrow_record block j).tail ∷ (arrow_record block j).head ∷ (arrow_record block j).mode ∷ (arrow_record block j).sign ∷ []
    unfolding arrow_record row_of record_size by_kind
    arrow-numbers = refl

    -- a row has so many numbers
    pub row-lengths : (length (row_of 1 block j) ≡ 1) × (length (row_of 2 block j) ≡ 2) × (length (row_of 3 block j) ≡ 4)
    unfolding row_of
    row-lengths = (refl, refl, refl)
