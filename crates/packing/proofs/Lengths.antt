-- The lengths of records, of blocks and of the packed file. Assumes nothing.
use mathlib.Core.Path.{◌≡◌, refl}
use mathlib.Core.Bool.{Bool, true, false, cond}
use mathlib.Core.List.{List, ◌++◌}
use mathlib.Core.Logic.{⊎_elim, ◌⊎◌, inl, inr}
use Prim.Native.Nat.{ℕ, zero, suc, ◌+◌, ◌*◌, ◌-◌, ◌<◌, ◌≤◌}
use native.Mathlib.Omega.{arith}
use borrow.Author.Tests.{ltb-true, ltb-false}
use lib.Dec.{ltb}
use lib.ListN.{length, length-append}
use Rattle.tables.specs.Rows.{Picture}
use Rattle.base.proofs.BufferLaws.{zeros-length}
use Rattle.blocks.specs.Blocks.{capacity, record_size}
use Rattle.blocks.proofs.MadeBlocks.{capacities, record-sizes}
use Rattle.blocks.proofs.Placing.{joined_length}
use Rattle.packing.specs.Packed.{bytes16, bytes32, box_bytes, containment_bytes, arrow_bytes, head_bytes, covered, block_of, least}
use Rattle.packing.specs.Packed.{rows_of, record_bytes, blocks_of, count_in, kind_block, kind_bytes, packed}

-- a kind is 1, 2 or 3
pub kinds : (kind : ℕ) → 1 ≤ kind → kind ≤ 3 → (kind ≡ 1) ⊎ ((kind ≡ 2) ⊎ (kind ≡ 3))
kinds zero h l = absurd (omega arith)
kinds (suc zero) h l = inl refl
kinds (suc (suc zero)) h l = inr (inl refl)
kinds (suc (suc (suc zero))) h l = inr (inr refl)
kinds (suc (suc (suc (suc k)))) h l = absurd (omega arith)

-- the smaller of two
pub least-most : (a b : ℕ) → (least a b ≤ a) × (least a b ≤ b)
unfolding least
least-most a b = go (ltb a b) refl
  where
    go : (t : Bool) → ltb a b ≡ t → (cond t a b ≤ a) × (cond t a b ≤ b)
    go true e = let h = ltb-true a b e in (omega arith, omega arith)
    go false e = let h = ltb-false a b e in (omega arith, omega arith)

-- numbers of 16 bits
pub two_bytes : (x : ℕ) → length (bytes16 x) ≡ 2
unfolding bytes16
two_bytes x = refl

pub four_bytes : (x y : ℕ) → length (bytes16 x ++ bytes16 y) ≡ 4
unfolding bytes16
four_bytes x y = refl

-- the bytes of a record
pub box-length : (boxes : List ℕ) (i : ℕ) → length (box_bytes boxes i) ≡ 1
unfolding box_bytes
box-length boxes i = refl

pub containment-length : (rows : List ℕ) (i : ℕ) → length (containment_bytes rows i) ≡ 4
unfolding containment_bytes bytes16
containment-length rows i = refl

pub arrow-length : (arrows : List ℕ) (i : ℕ) → length (arrow_bytes arrows i) ≡ 6
unfolding arrow_bytes bytes16
arrow-length arrows i = refl

pub head-length : (kind number count : ℕ) → length (head_bytes kind number count) ≡ 8
unfolding head_bytes bytes16
head-length kind number count = refl

module _ (kind : ℕ) (low : 1 ≤ kind) (high : kind ≤ 3) where
  -- what holds of each kind holds
  pub of-kind : (P : ℕ → Type 0) → P 1 → P 2 → P 3 → P kind
  of-kind P a b c = ⊎_elim (λ e. rw e a) (λ d. ⊎_elim (λ e. rw e b) (λ e. rw e c) d) (kinds kind low high)

  pub capacity-some : 0 < capacity kind
  capacity-some =
      of-kind (λ k. 0 < capacity k) (rw capacities.0 (omega arith)) (rw capacities.1 (omega arith)) (rw capacities.2 (omega arith))

  pub capacity-most : capacity kind ≤ 500
  capacity-most =
      of-kind (λ k. capacity k ≤ 500) (rw capacities.0 (omega arith)) (rw capacities.1 (omega arith)) (rw capacities.2 (omega arith))

  -- the records of a block fit between its head and its check
  pub records-fit : (count : ℕ) → count ≤ capacity kind → record_size kind * count ≤ 500
  records-fit count =
      of-kind (λ k. count ≤ capacity k → record_size k * count ≤ 500)
      (rw (capacities.0, record-sizes.0) (λ h. omega arith))
      (rw (capacities.1, record-sizes.1) (λ h. omega arith))
      (rw (capacities.2, record-sizes.2) (λ h. omega arith))

  -- a record has as many bytes as its kind says
  pub record-length : (pic : Picture) (i : ℕ) → length (record_bytes pic kind i) ≡ record_size kind
  unfolding record_bytes box_bytes containment_bytes arrow_bytes bytes16
  record-length pic i =
      of-kind (λ k. length (record_bytes pic k i) ≡ record_size k) (rw record-sizes.0) (rw record-sizes.1) (rw record-sizes.2)

  -- a block has 512 bytes, 508 of which its check covers
  module _ (number count : ℕ) (records : ℕ → List ℕ) (most : count ≤ capacity kind) (len : (j : ℕ) → length (records j) ≡ record_size kind) where
    pub covered-length : length (covered kind number count records) ≡ 508
    unfolding covered
    covered-length =
        let fit = records-fit count most in
        simp (length-append, head-length kind number count, joined_length records (record_size kind) count (λ j h. len j), zeros-length) (omega arith)

    pub block-length : length (block_of kind number count records) ≡ 512
    unfolding block_of bytes32 bytes16
    block-length = simp (length-append, covered-length)

  module _ (pic : Picture) where
    pub count_most : (k : ℕ) → count_in pic kind k ≤ capacity kind
    unfolding count_in
    count_most k = (least-most (rows_of pic kind - capacity kind * k) (capacity kind)).1

    pub kind-block-length : (k : ℕ) → length (kind_block pic kind k) ≡ 512
    unfolding kind_block
    kind-block-length k = block-length _ _ _ (count_most k) (λ j. record-length pic (capacity kind * k + j))

    pub kind-length : length (kind_bytes pic kind) ≡ 512 * blocks_of pic kind
    unfolding kind_bytes
    kind-length = joined_length _ 512 (blocks_of pic kind) (λ k h. kind-block-length k)

-- 512 bytes a block
pub packed-length : (pic : Picture)
    → length (packed pic) ≡ 512 * (blocks_of pic 1 + blocks_of pic 2 + blocks_of pic 3)
unfolding packed
packed-length pic =
    let a = kind-length 1 (omega arith) (omega arith) pic in
    let b = kind-length 2 (omega arith) (omega arith) pic in
    let c = kind-length 3 (omega arith) (omega arith) pic in
    simp length-append (omega arith)
