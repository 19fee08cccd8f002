-- The packed file of a picture that checks 1 to 7 pass is a file of bytes. Assumes nothing.
use mathlib.Core.Path.{◌≡◌}
use mathlib.Core.List.{List, [], ◌∷◌, ◌++◌}
use Rattle.std.specs.Prelude.{None as none}
use Prim.Native.Nat.{ℕ, zero, suc, ◌+◌, ◌*◌, ◌-◌, ◌/◌, ◌%◌, ◌<◌, ◌≤◌}
use native.Mathlib.Omega.{arith}
use lib.ListN.{length, get_or, replicate}
use Rattle.tables.specs.Rows.{Picture, row_count, row_at, arrow_count, arrow_at}
use Rattle.tables.specs.Faults.{table_fault}
use Rattle.tables.specs.Steps.{SoundRows, SoundArrows}
use Rattle.base.proofs.BufferLaws.{zeros-is}
use Rattle.tables.proofs.GroupLaws.{on_side-there}
use Rattle.tables.proofs.TableLaws.{sound-rows, sound-arrows}
use Rattle.blocks.specs.Blocks.{capacity, record_size, joined}
use Rattle.blocks.proofs.JoinedLaws.{joined-none}
use Rattle.blocks.proofs.MadeBlocks.{check-small}
use Rattle.packing.specs.Packed.{bytes16, bytes32, box_bytes, containment_bytes, arrow_bytes, head_bytes, covered, block_of}
use Rattle.packing.specs.Packed.{rows_of, record_bytes, blocks_of, first_of, count_in, kind_block, kind_bytes, packed}
use Rattle.packing.proofs.Lengths.{of-kind, least-most, capacity-most, count_most}
use Rattle.packing.proofs.Chunks.{joined-suc}
use Rattle.packing.proofs.Regular.{rows-by-kind, first-by-kind}
use Rattle.packing.proofs.PackedBlocks.{blocks-few}

-- ---- lists of bytes

record Bytes (l : List ℕ) : Type 0 where
  each : (i : ℕ) → get_or l i 0 < 256

no_bytes : Bytes []
no_bytes = record { each = λ i. omega arith }

more_bytes : (x : ℕ) (l : List ℕ) → x < 256 → Bytes l → Bytes (x ∷ l)
more_bytes x l h b = record { each = go }
  where
    go : (i : ℕ) → get_or (x ∷ l) i 0 < 256
    go zero = h
    go (suc i) = b.each i

both_bytes : (a b : List ℕ) → Bytes a → Bytes b → Bytes (a ++ b)
both_bytes [] b p q = q
both_bytes (x ∷ a) b p q = more_bytes x (a ++ b) (p.each 0) (both_bytes a b (record { each = λ i. p.each (suc i) }) q)

joined_bytes : (f : ℕ → List ℕ) (n : ℕ) → ((k : ℕ) → k < n → Bytes (f k)) → Bytes (joined f n)
joined_bytes f zero e = rw joined-none no_bytes
joined_bytes f (suc n) e = rw joined-suc (both_bytes _ _ (joined_bytes f n (λ k h. e k (omega arith))) (e n (omega arith)))

zero-bytes : (n : ℕ) → Bytes (replicate n 0)
zero-bytes zero = no_bytes
zero-bytes (suc n) = more_bytes 0 _ (omega arith) (zero-bytes n)

of-16 : (x : ℕ) → x < 65536 → Bytes (bytes16 x)
unfolding bytes16
of-16 x h = more_bytes _ _ (omega arith) (more_bytes _ _ (omega arith) no_bytes)

of-32 : (x : ℕ) → x < 4294967296 → Bytes (bytes32 x)
unfolding bytes32
of-32 x h = both_bytes _ _ (of-16 (x % 65536) (omega arith)) (of-16 (x / 65536) (omega arith))

-- ---- a block of small numbers

of-block : (kind number count : ℕ) (records : ℕ → List ℕ) → kind < 256 → number < 65536 → count < 65536
    → ((j : ℕ) → j < count → Bytes (records j)) → Bytes (block_of kind number count records)
unfolding block_of covered head_bytes
of-block kind number count records k n c r =
    both_bytes _ _
    (both_bytes (head_bytes kind number count) _
    (more_bytes kind _ k (more_bytes 0 _ (omega arith) (both_bytes _ _ (of-16 number n)
    (both_bytes _ _ (of-16 count c) (more_bytes 0 _ (omega arith) (more_bytes 0 _ (omega arith) no_bytes))))))
    (both_bytes _ _ (joined_bytes records count r) (rw (← zeros-is) (zero-bytes (500 - record_size kind * count)))))
    (of-32 _ (check-small _))

module _ (pic : Picture) (sound : table_fault pic ≡ none) where
  the-rows : SoundRows pic.boxes pic.rows
  the-rows = sound-rows _ _ _ sound

  the-arrows : SoundArrows pic.boxes pic.arrows
  the-arrows = sound-arrows _ _ _ sound

  -- ---- a row's record

  of-box : (i : ℕ) → i < length pic.boxes → Bytes (record_bytes pic 1 i)
  unfolding record_bytes box_bytes
  of-box i h = let b = the-rows.bytes i h in more_bytes _ _ (omega arith) no_bytes

  of-containment : (i : ℕ) → i < row_count pic.rows → Bytes (record_bytes pic 2 i)
  unfolding record_bytes containment_bytes
  of-containment i h =
      let f = the-rows.few-boxes in
      let o = the-rows.outer-there i h in
      let n = the-rows.inner-there i h in
      both_bytes _ _ (of-16 (row_at pic.rows i).outer (omega arith)) (of-16 (row_at pic.rows i).inner (omega arith))

  of-arrow : (i : ℕ) → i < arrow_count pic.arrows → Bytes (record_bytes pic 3 i)
  unfolding record_bytes arrow_bytes
  of-arrow i h =
      let f = the-rows.few-boxes in
      let t = on_side-there pic.boxes _ (arrow_at pic.arrows i).tail (the-arrows.tail-user i h) in
      let n = on_side-there pic.boxes _ (arrow_at pic.arrows i).head (the-arrows.head-file i h) in
      both_bytes _ _ (of-16 (arrow_at pic.arrows i).tail (omega arith))
      (both_bytes _ _ (of-16 (arrow_at pic.arrows i).head (omega arith))
      (more_bytes _ _ (omega arith) (more_bytes _ _ (omega arith) no_bytes)))

  few : first_of pic 3 + blocks_of pic 3 ≤ 17
  few =
      let f = (blocks-few pic the-rows.few-boxes the-rows.few-rows the-arrows.few-arrows).1 in
      let e = (first-by-kind pic).2 in
      omega arith

  module _ (kind : ℕ) (low : 1 ≤ kind) (high : kind ≤ 3) where
    of-record : (i : ℕ) → i < rows_of pic kind → Bytes (record_bytes pic kind i)
    of-record i =
        of-kind kind low high (λ k. i < rows_of pic k → Bytes (record_bytes pic k i))
        (λ h. of-box i (rw (rows-by-kind pic).0 at h))
        (λ h. of-containment i (rw (rows-by-kind pic).1 at h))
        (λ h. of-arrow i (rw (rows-by-kind pic).2 at h))

    -- a row of a block is one of the table
    row-there : (k j : ℕ) → j < count_in pic kind k → capacity kind * k + j < rows_of pic kind
    unfolding count_in
    row-there k j h =
        let l = least-most (rows_of pic kind - capacity kind * k) (capacity kind) in
        omega arith

    number-few : (k : ℕ) → k < blocks_of pic kind → first_of pic kind + k < 65536
    number-few k =
        let f = few in
        let first = first-by-kind pic in
        of-kind kind low high (λ x. k < blocks_of pic x → first_of pic x + k < 65536)
        (λ h. let e = first.0 in let g = first.2 in omega arith)
        (λ h. let e = first.1 in let g = first.2 in omega arith)
        (λ h. omega arith)

    of-kind-bytes : Bytes (kind_bytes pic kind)
    unfolding kind_bytes kind_block
    of-kind-bytes = joined_bytes _ _ (λ k h.
        let c = count_most kind low high pic k in
        let m = capacity-most kind low high in
        of-block kind _ _ _ (omega arith) (number-few k h) (omega arith)
        (λ j l. of-record (capacity kind * k + j) (row-there k j l)))

  all-bytes : Bytes (packed pic)
  unfolding packed
  all-bytes =
      both_bytes _ _ (of-kind-bytes 1 (omega arith) (omega arith))
      (both_bytes _ _ (of-kind-bytes 2 (omega arith) (omega arith)) (of-kind-bytes 3 (omega arith) (omega arith)))

  pub packed-bytes : (i : ℕ) → get_or (packed pic) i 0 < 256
  packed-bytes = all-bytes.each
