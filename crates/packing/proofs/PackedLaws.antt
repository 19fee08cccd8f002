-- The parts of the packed file as equations, for the crates above this one: numbers, records, a block, a kind's blocks. Assumes nothing.
use mathlib.Core.Path.{◌≡◌, refl}
use mathlib.Core.List.{List, [], ◌∷◌, ◌++◌}
use Prim.Native.Nat.{ℕ, ◌+◌, ◌*◌, ◌-◌, ◌/◌, ◌%◌}
use lib.ListN.{get_or}
use Rattle.base.specs.Buffers.{zeros}
use Rattle.tables.specs.Rows.{Picture, row_at, arrow_at}
use Rattle.blocks.specs.Fnv.{fnv1a}
use Rattle.blocks.specs.Blocks.{capacity, record_size, joined}
use Rattle.packing.specs.Packed.{bytes16, bytes32, box_bytes, containment_bytes, arrow_bytes, head_bytes, covered, block_of, least}
use Rattle.packing.specs.Packed.{rows_of, record_bytes, blocks_of, first_of, count_in, kind_block, kind_bytes, packed}

-- ---- numbers and records

pub bytes16-is : (x : ℕ) → bytes16 x ≡ x % 256 ∷ x / 256 ∷ []
unfolding bytes16
bytes16-is x = refl

pub bytes32-is : (x : ℕ) → bytes32 x ≡ bytes16 (x % 65536) ++ bytes16 (x / 65536)
unfolding bytes32
bytes32-is x = refl

pub box-is : (boxes : List ℕ) (i : ℕ) → box_bytes boxes i ≡ get_or boxes i 0 ∷ []
unfolding box_bytes
box-is boxes i = refl

pub containment-is : (rows : List ℕ) (i : ℕ) → containment_bytes rows i ≡ bytes16 (row_at rows i).outer ++ bytes16 (row_at rows i).inner
unfolding containment_bytes
containment-is rows i = refl

pub arrow-is : (arrows : List ℕ) (i : ℕ)
    → arrow_bytes arrows i
    ≡ bytes16 (arrow_at arrows i).tail
    ++ (bytes16 (arrow_at arrows i).head ++ ((arrow_at arrows i).mode % 256 ∷ (arrow_at arrows i).sign % 256 ∷ []))
unfolding arrow_bytes
arrow-is arrows i = refl

-- ---- a block

pub head-is : (kind number count : ℕ) → head_bytes kind number count ≡ kind ∷ 0 ∷ (bytes16 number ++ (bytes16 count ++ (0 ∷ 0 ∷ [])))
unfolding head_bytes
head-is kind number count = refl

module _ (kind number count : ℕ) (records : ℕ → List ℕ) where
  pub covered-is : covered kind number count records
      ≡ head_bytes kind number count ++ (joined records count ++ zeros (500 - record_size kind * count))
  unfolding covered
  covered-is = refl

  pub block-of : block_of kind number count records
      ≡ covered kind number count records ++ bytes32 (fnv1a (covered kind number count records))
  unfolding block_of
  block-of = refl

-- ---- a kind's blocks

module _ (pic : Picture) where
  pub record-by-kind : (i : ℕ) → (record_bytes pic 1 i ≡ box_bytes pic.boxes i) × (record_bytes pic 2 i ≡ containment_bytes pic.rows i)
      × (record_bytes pic 3 i ≡ arrow_bytes pic.arrows i)
  unfolding record_bytes
  record-by-kind i = (refl, refl, refl)

  pub count-in : (kind k : ℕ) → count_in pic kind k ≡ least (rows_of pic kind - capacity kind * k) (capacity kind)
  unfolding count_in
  count-in kind k = refl

  pub kind-block : (kind k : ℕ)
      → kind_block pic kind k
      ≡ block_of kind (first_of pic kind + k) (count_in pic kind k) (λ j. record_bytes pic kind (capacity kind * k + j))
  unfolding kind_block
  kind-block kind k = refl

  pub kind-bytes : (kind : ℕ) → kind_bytes pic kind ≡ joined (kind_block pic kind) (blocks_of pic kind)
  unfolding kind_bytes
  kind-bytes kind = refl

  pub by-kinds : packed pic ≡ kind_bytes pic 1 ++ (kind_bytes pic 2 ++ kind_bytes pic 3)
  unfolding packed
  by-kinds = refl
