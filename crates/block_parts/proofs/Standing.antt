-- Document 02, P5, of the packed file: in which block, and at which place of it, the record of a row stands. Assumes nothing.
use mathlib.Core.Path.{◌≡◌, ◌∙◌}
use Prim.Native.Nat.{ℕ, ◌+◌, ◌*◌, ◌/◌, ◌%◌, ◌<◌, ◌≤◌}
use native.Mathlib.Omega.{arith}
use native.Mathlib.Nat.{mul_comm, mod-lt, div-add-mod, div-lt_iff_lt-mul}
use Rattle.tables.specs.Rows.{Picture}
use Rattle.blocks.specs.Blocks.{capacity, record_size}
use Rattle.blocks.specs.Files.{block_at}
use Rattle.blocks.proofs.Made.{made-block}
use Rattle.blocks.proofs.MadeBlocks.{RecordIs}
use Rattle.packing.specs.Packed.{rows_of, record_bytes, blocks_of, first_of, count_in, kind_block, packed}
use Rattle.block_parts.specs.Walks.{walk_at}
use Rattle.packing.proofs.PackedLaws.{count-in}
use Rattle.packing.proofs.Lengths.{of-kind, capacity-some}
use Rattle.packing.proofs.Regular.{least_above, first-by-kind, all-packed}
use Rattle.packing.proofs.BlockSays.{kind-record}
use Rattle.packing.proofs.PackedBlocks.{blocks, blocks_all, packed-is, blocks-whole, block_1, block_2, block_3}

module _ (pic : Picture) where
  -- block k of a kind is that many blocks behind the kind's first one
  stands : (kind : ℕ) → 1 ≤ kind → kind ≤ 3 → (k : ℕ) → k < blocks_of pic kind
      → (first_of pic kind + k < blocks_all pic)
      × (blocks pic (first_of pic kind + k) ≡ kind_block pic kind k)
  stands kind low high k =
      of-kind kind low high (λ n. k < blocks_of pic n
      → (first_of pic n + k < blocks_all pic)
      × (blocks pic (first_of pic n + k) ≡ kind_block pic n k))
      (λ h. rw (first-by-kind pic).0 (omega arith, block_1 pic k h))
      (λ h. rw (first-by-kind pic).1 (omega arith, block_2 pic k h))
      (λ h. rw (first-by-kind pic).2 (omega arith, block_3 pic k h))

  module _ (kind : ℕ) (low : 1 ≤ kind) (high : kind ≤ 3) where
    block-is : (k : ℕ) → k < blocks_of pic kind
        → block_at (packed pic) (first_of pic kind + k) ≡ kind_block pic kind k
    block-is k h =
        let s = stands kind low high k h in
        rw packed-is (made-block (blocks pic) _ (blocks-whole pic) _ s.0 ∙ s.1)

    -- P5: the record of row i stands in the block that is the quotient of i by the capacity, counted from the kind's first one, at the
    -- place that is the remainder
    pub record-stands : (i : ℕ) → i < rows_of pic kind
        → RecordIs (block_at (packed pic) (first_of pic kind + (walk_at (capacity kind) i).block))
        (record_size kind) (walk_at (capacity kind) i).place (record_bytes pic kind i)
    record-stands i row =
        let c = capacity kind in
        let some = capacity-some kind low high in
        let e : c * (i / c) + i % c ≡ i = div-add-mod i c in
        let all : rows_of pic kind ≤ blocks_of pic kind * c = rw mul_comm (all-packed pic kind low high) in
        let block : i / c < blocks_of pic kind = (div-lt_iff_lt-mul some).1 (omega arith) in
        let place : i % c < count_in pic kind (i / c) = rw count-in (least_above _ _ _ (omega arith) (mod-lt i some)) in
        rw (block-is (i / c) block) (rw e at (kind-record pic kind low high (i / c) (i % c) place))
