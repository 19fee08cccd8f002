-- The packed file as one run of blocks: each has 512 bytes, none has a fault, and together they say the three tables. Assumes nothing.
use mathlib.Core.Path.{◌≡◌, sym, ap, ap₂, ◌∙◌}
use mathlib.Core.List.{List, [], ◌∷◌, ◌++◌, append-nil}
use Rattle.std.specs.Prelude.{None as none}
use Prim.Native.Nat.{ℕ, ◌+◌, ◌*◌, ◌-◌, ◌%◌, ◌<◌, ◌≤◌}
use native.Mathlib.Omega.{arith}
use native.Mathlib.Nat.{zero-add, add_assoc}
use lib.ListN.{length, get_or}
use Rattle.tables.specs.Rows.{Picture, row_count, row_at, arrow_count, arrow_at}
use Rattle.blocks.specs.Blocks.{capacity, joined, said}
use Rattle.blocks.specs.Files.{kind_before}
use Rattle.blocks.specs.Steps.{blocks_fault, table_in}
use Rattle.blocks.proofs.Made.{joined_same}
use Rattle.blocks.proofs.MadeBlocks.{no_rows, none_before, run_more}
use Rattle.packing.specs.Packed.{rows_of, blocks_of, first_of, count_in, kind_block, kind_bytes, packed}
use Rattle.packing.proofs.Chunks.{joined-empty, glue, glue-low, glue-high, glue-each, joined-glue, joined-all, boxes-joined, containments-joined, arrows-joined}
use Rattle.packing.proofs.Lengths.{least-most, kind-block-length}
use Rattle.packing.proofs.Regular.{rows-by-kind, first-by-kind, fills-1, fills-2, fills-3, box-block, all-packed}
use Rattle.packing.proofs.BlockSays.{kind-head, kind-sound, boxes-said, containments-said, arrows-said}

module _ (pic : Picture) where
  -- the box blocks, then the containment blocks, then the arrow blocks
  unfoldable pub blocks : ℕ → List ℕ
  blocks =
      glue (blocks_of pic 1) (kind_block pic 1)
      (glue (blocks_of pic 2) (kind_block pic 2) (kind_block pic 3))

  abbrev pub blocks_all : ℕ
  blocks_all = blocks_of pic 1 + (blocks_of pic 2 + blocks_of pic 3)

  -- what F makes of each, kind by kind
  by_kind : (F : List ℕ → List ℕ) → joined (λ k. F (blocks k)) blocks_all
      ≡ joined (λ k. F (kind_block pic 1 k)) (blocks_of pic 1)
      ++ (joined (λ k. F (kind_block pic 2 k)) (blocks_of pic 2)
      ++ joined (λ k. F (kind_block pic 3 k)) (blocks_of pic 3))
  unfolding blocks
  by_kind F =
      let one = joined (λ k. F (kind_block pic 1 k)) (blocks_of pic 1) in
      joined-glue F _ _ _ _ ∙ ap (λ (x : List ℕ). one ++ x) (joined-glue F _ _ _ _)

  pub packed-is : packed pic ≡ joined blocks blocks_all
  unfolding packed kind_bytes
  packed-is = sym (by_kind (λ b. b))

  pub blocks-whole : (k : ℕ) → k < blocks_all → length (blocks k) ≡ 512
  unfolding blocks
  blocks-whole =
      glue-each (λ b. length b ≡ 512) _ _ _ _ (λ k h. kind-block-length 1 (omega arith) (omega arith) pic k)
      (glue-each (λ b. length b ≡ 512) _ _ _ _
      (λ k h. kind-block-length 2 (omega arith) (omega arith) pic k)
      (λ k h. kind-block-length 3 (omega arith) (omega arith) pic k))

  -- ---- no block has a fault

  -- the blocks of a kind, behind those of no higher kind
  kind-run : (kind : ℕ) → 1 ≤ kind → kind ≤ 3 → (m : ℕ) → first_of pic kind ≡ m
      → ((j : ℕ) → j < blocks_of pic kind → blocks (m + j) ≡ kind_block pic kind j)
      → blocks_fault blocks m ≡ none → kind_before blocks m ≤ kind
      → (blocks_fault blocks (m + blocks_of pic kind) ≡ none) × (kind_before blocks (m + blocks_of pic kind) ≤ kind)
  kind-run kind low high m first same good before =
      run_more blocks kind m (blocks_of pic kind) good before
      (λ j h. rw (same j h, kind-head pic kind low high j))
      (λ j h b l. rw (same j h, ← first) (kind-sound pic kind low high j b l))

  -- where the blocks of each kind stand
  pub block_1 : (j : ℕ) → j < blocks_of pic 1 → blocks (0 + j) ≡ kind_block pic 1 j
  unfolding blocks
  block_1 j h = rw zero-add (glue-low _ _ _ j h)

  pub block_2 : (j : ℕ) → j < blocks_of pic 2 → blocks (blocks_of pic 1 + j) ≡ kind_block pic 2 j
  unfolding blocks
  block_2 j h = glue-high _ _ _ j ∙ glue-low _ _ _ j h

  pub block_3 : (j : ℕ) → j < blocks_of pic 3
      → blocks (blocks_of pic 1 + blocks_of pic 2 + j) ≡ kind_block pic 3 j
  unfolding blocks
  block_3 j h = rw add_assoc (glue-high _ _ _ (blocks_of pic 2 + j) ∙ glue-high _ _ _ j)

  pub blocks-good : blocks_fault blocks blocks_all ≡ none
  blocks-good =
      let b1 = blocks_of pic 1 in
      let b2 = blocks_of pic 2 in
      let b3 = blocks_of pic 3 in
      let n = none_before blocks in
      let one : (blocks_fault blocks b1 ≡ none) × (kind_before blocks b1 ≤ 1)
      = rw zero-add at (kind-run 1 (omega arith) (omega arith) 0 (first-by-kind pic).0 block_1 n.0 (omega arith)) in
      let two = kind-run 2 (omega arith) (omega arith) b1 (first-by-kind pic).1 block_2 one.0 (omega arith) in
      let three = kind-run 3 (omega arith) (omega arith) (b1 + b2) (first-by-kind pic).2 block_3 two.0 (omega arith) in
      rw add_assoc at three.0

  -- ---- what the blocks say

  -- nothing of other kinds
  other-boxes : (kind : ℕ) → 2 ≤ kind → kind ≤ 3 → (n : ℕ) → joined (λ k. said 1 (kind_block pic kind k)) n ≡ []
  other-boxes kind low high n =
      joined-empty _ n (λ k h. no_rows _ _ _ _ (kind-head pic kind (omega arith) high k) 1 (λ e. omega arith))

  pub boxes-packed : table_in 1 blocks blocks_all ≡ pic.boxes
  unfolding count_in
  boxes-packed =
      by_kind (said 1)
      ∙ ap₂ ◌++◌ own (ap₂ ◌++◌ (other-boxes 2 (omega arith) (omega arith) _) (other-boxes 3 (omega arith) (omega arith) _))
      ∙ append-nil pic.boxes
    where
      own : joined (λ k. said 1 (kind_block pic 1 k)) (blocks_of pic 1) ≡ pic.boxes
      own =
          joined_same _ _ _ (λ k h. boxes-said pic k)
          ∙ joined-all (λ i. get_or pic.boxes i 0 ∷ []) (capacity 1) (rows_of pic 1) _ (all-packed pic 1 (omega arith) (omega arith))
          ∙ ap (joined (λ i. get_or pic.boxes i 0 ∷ [])) (rows-by-kind pic).0
          ∙ boxes-joined pic.boxes

  other-containments : (kind : ℕ) → 1 ≤ kind → kind ≤ 3 → (kind ≡ 2 → ⊥) → (n : ℕ)
      → joined (λ k. said 2 (kind_block pic kind k)) n ≡ []
  other-containments kind low high not n =
      joined-empty _ n (λ k h. no_rows _ _ _ _ (kind-head pic kind low high k) 2 not)

  pub containments-packed : length pic.rows % 2 ≡ 0 → table_in 2 blocks blocks_all ≡ pic.rows
  unfolding count_in
  containments-packed whole =
      by_kind (said 2)
      ∙ ap₂ ◌++◌ (other-containments 1 (omega arith) (omega arith) (λ e. omega arith) _)
      (ap₂ ◌++◌ own (other-containments 3 (omega arith) (omega arith) (λ e. omega arith) _))
      ∙ append-nil pic.rows
    where
      own : joined (λ k. said 2 (kind_block pic 2 k)) (blocks_of pic 2) ≡ pic.rows
      own =
          let row : ℕ → List ℕ = λ i. (row_at pic.rows i).outer ∷ (row_at pic.rows i).inner ∷ [] in
          joined_same _ _ _ (λ k h. containments-said pic k)
          ∙ joined-all row (capacity 2) (rows_of pic 2) _ (all-packed pic 2 (omega arith) (omega arith))
          ∙ ap (joined row) (rows-by-kind pic).1
          ∙ containments-joined pic.rows whole

  other-arrows : (kind : ℕ) → 1 ≤ kind → kind ≤ 2 → (n : ℕ) → joined (λ k. said 3 (kind_block pic kind k)) n ≡ []
  other-arrows kind low high n =
      joined-empty _ n (λ k h. no_rows _ _ _ _ (kind-head pic kind low (omega arith) k) 3 (λ e. omega arith))

  -- a row of a block is one of the table
  row-there : (k j : ℕ) → j < count_in pic 3 k → capacity 3 * k + j < arrow_count pic.arrows
  unfolding count_in
  row-there k j h =
      let l = least-most (rows_of pic 3 - capacity 3 * k) (capacity 3) in
      omega (arith, (rows-by-kind pic).2)

  module _ (whole : length pic.arrows % 4 ≡ 0) (modes : (i : ℕ) → i < arrow_count pic.arrows → (arrow_at pic.arrows i).mode ≤ 7)
      (signs : (i : ℕ) → i < arrow_count pic.arrows → (arrow_at pic.arrows i).sign ≤ 1) where
    own-arrows : joined (λ k. said 3 (kind_block pic 3 k)) (blocks_of pic 3) ≡ pic.arrows
    unfolding count_in
    own-arrows =
        let row : ℕ → List ℕ = λ i. let a = arrow_at pic.arrows i in a.tail ∷ a.head ∷ a.mode ∷ a.sign ∷ [] in
        joined_same _ _ _
        (λ k h. arrows-said pic k (λ j l. (modes (capacity 3 * k + j) (row-there k j l), signs (capacity 3 * k + j) (row-there k j l))))
        ∙ joined-all row (capacity 3) (rows_of pic 3) _ (all-packed pic 3 (omega arith) (omega arith))
        ∙ ap (joined row) (rows-by-kind pic).2
        ∙ arrows-joined pic.arrows whole

    pub arrows-packed : table_in 3 blocks blocks_all ≡ pic.arrows
    arrows-packed =
        by_kind (said 3)
        ∙ ap₂ ◌++◌ (other-arrows 1 (omega arith) (omega arith) _) (ap₂ ◌++◌ (other-arrows 2 (omega arith) (omega arith) _) own-arrows)

  -- few rows fill few blocks, and there is one
  pub blocks-few : length pic.boxes ≤ 256 → row_count pic.rows ≤ 1024 → arrow_count pic.arrows ≤ 512
      → (0 < blocks_all) × (blocks_all ≤ 17)
  blocks-few b r a =
      let some = box-block pic in
      let one = (fills-1 pic).few in
      let two = (fills-2 pic).few in
      let three = (fills-3 pic).few in
      (omega arith, omega arith)
