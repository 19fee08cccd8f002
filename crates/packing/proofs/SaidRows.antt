-- The rows that a good regular file says, kind by kind: how many there are, and that their records are those of the file's blocks.
-- Assumes nothing.
use mathlib.Core.Path.{◌≡◌, refl, ap, ◌∙◌}
use mathlib.Core.List.{List, [], ◌∷◌}
use Rattle.std.specs.Prelude.{None as none}
use Prim.Native.Nat.{ℕ, suc, ◌+◌, ◌*◌, ◌/◌, ◌<◌, ◌≤◌}
use native.Mathlib.Omega.{arith}
use native.Mathlib.Nat.{add-zero}
use lib.ListN.{length, get_or}
use Rattle.tables.specs.Rows.{row_count, arrow_count}
use Rattle.blocks.specs.Blocks.{number16, capacity, record_size, said}
use Rattle.blocks.specs.Files.{block_at, file_fault, table_of, picture_of}
use Rattle.blocks.proofs.MadeBlocks.{capacities, record-sizes, no_rows, rows_are}
use Rattle.blocks.proofs.RowLaws.{box-row-is, containment-row-is, arrow-row-is}
use Rattle.blocks.proofs.GoodBlocks.{block-whole, block-bytes, file-block}
use Rattle.packing.specs.Packed.{record_bytes}
use Rattle.packing.specs.Regular.{count_at, Regular}
use Rattle.packing.proofs.BlockIs.{record_in, box-record, containment-record, arrow-record}
use Rattle.packing.proofs.KindRuns.{Run, Said, table-run, head-of, run-good, table-said}

-- the row of a block's record j, by its bytes
unfoldable box_at : List ℕ → ℕ → List ℕ
box_at block j = get_or block (8 + j) 0 ∷ []

unfoldable containment_at : List ℕ → ℕ → List ℕ
containment_at block j = number16 block (8 + 4 * j) ∷ number16 block (10 + 4 * j) ∷ []

unfoldable arrow_row_at : List ℕ → ℕ → List ℕ
arrow_row_at block j = number16 block (8 + 6 * j) ∷ number16 block (10 + 6 * j) ∷ get_or block (12 + 6 * j) 0 ∷ get_or block (13 + 6 * j) 0 ∷ []

-- how many rows a table has, and their records, of the run of m blocks of a kind
pub record RunRows (file : List ℕ) (kind from m rows : ℕ) (records : ℕ → List ℕ) : Type 0 where
  pub no_rows : m ≡ 0 → rows ≡ 0
  pub row_count : (last : ℕ) → m ≡ suc last → rows ≡ capacity kind * last + count_at file (from + last)
  pub row-records : (j i : ℕ) → j < m → i < count_at file (from + j)
      → records (capacity kind * j + i) ≡ record_in (block_at file (from + j)) (record_size kind) i

module _ (file : List ℕ) (small : (i : ℕ) → get_or file i 0 < 256) (good : file_fault file ≡ none) (regular : Regular file) where
  abbrev records : ℕ → ℕ → List ℕ
  records = record_bytes (picture_of file)

  -- ---- boxes

  module _ (from m : ℕ) (run : Run file 1 from m) where
    boxes-run : Said file 1 from m 1 box_at (table_of 1 file)
    unfolding box_at
    boxes-run =
        table-said file good regular 1 from m run (said 1) box_at 1 (table_of 1 file)
        (table-run file (said 1) 1 from m run (λ k h other. no_rows _ _ _ _ (file-block file good k h).head 1 other))
        (λ k h e. rows_are _ 1 k _ (head-of file good 1 k h e) _ (λ j l. box-row-is _ j))
        (λ b j. refl)

    pub box-rows : RunRows file 1 from m (length (table_of 1 file)) (records 1)
    unfolding box_at
    box-rows = record {
      no_rows = λ e. ap length (boxes-run.no_rows e);
      row_count = λ last e. boxes-run.table-length last e ∙ rw capacities.0 (omega arith);
      row-records = λ j i h l.
          let f : count_at file (from + j) ≤ 500 = rw capacities.0 at (run-good file good regular 1 from m run j h).fits in
          let e : 1 * (capacity 1 * j + i) + 0 ≡ capacity 1 * j + i = omega arith in
          let w = block-whole file (from + j) (let a = run.all in omega arith) in
          rw record-sizes.0
          (box-record (block_at file (from + j)) w (block-bytes file small (from + j)) _ (capacity 1 * j + i) i (omega arith)
          (rw e at (boxes-run.row_at j i 0 h l (omega arith))));
    }

  -- ---- containments

  module _ (from m : ℕ) (run : Run file 2 from m) where
    containments-run : Said file 2 from m 2 containment_at (table_of 2 file)
    unfolding containment_at
    containments-run =
        table-said file good regular 2 from m run (said 2) containment_at 2 (table_of 2 file)
        (table-run file (said 2) 2 from m run (λ k h other. no_rows _ _ _ _ (file-block file good k h).head 2 other))
        (λ k h e. rows_are _ 2 k _ (head-of file good 2 k h e) _ (λ j l. containment-row-is _ j))
        (λ b j. refl)

    pub containment-rows : RunRows file 2 from m (row_count (table_of 2 file)) (records 2)
    unfolding containment_at
    containment-rows = record {
      no_rows = λ e. ap (λ (x : List ℕ). length x / 2) (containments-run.no_rows e);
      row_count = λ last e.
          let l : length (table_of 2 file) ≡ 2 * 125 * last + 2 * count_at file (from + last)
          = rw capacities.1 at (containments-run.table-length last e) in
          rw capacities.1 (omega arith);
      row-records = λ j i h l.
          let f : count_at file (from + j) ≤ 125 = rw capacities.1 at (run-good file good regular 2 from m run j h).fits in
          let w = block-whole file (from + j) (let a = run.all in omega arith) in
          let at = containments-run.row_at j i in
          rw record-sizes.1
          (containment-record (block_at file (from + j)) w (block-bytes file small (from + j)) _ (capacity 2 * j + i) i (omega arith)
          (rw add-zero at (at 0 h l (omega arith))) (at 1 h l (omega arith)));
    }

  -- ---- arrows

  module _ (from m : ℕ) (run : Run file 3 from m) where
    arrows-run : Said file 3 from m 4 arrow_row_at (table_of 3 file)
    unfolding arrow_row_at
    arrows-run =
        table-said file good regular 3 from m run (said 3) arrow_row_at 4 (table_of 3 file)
        (table-run file (said 3) 3 from m run (λ k h other. no_rows _ _ _ _ (file-block file good k h).head 3 other))
        (λ k h e. rows_are _ 3 k _ (head-of file good 3 k h e) _ (λ j l. arrow-row-is _ j))
        (λ b j. refl)

    pub arrow-rows : RunRows file 3 from m (arrow_count (table_of 3 file)) (records 3)
    unfolding arrow_row_at
    arrow-rows = record {
      no_rows = λ e. ap (λ (x : List ℕ). length x / 4) (arrows-run.no_rows e);
      row_count = λ last e.
          let l : length (table_of 3 file) ≡ 4 * 83 * last + 4 * count_at file (from + last)
          = rw capacities.2 at (arrows-run.table-length last e) in
          rw capacities.2 (omega arith);
      row-records = λ j i h l.
          let f : count_at file (from + j) ≤ 83 = rw capacities.2 at (run-good file good regular 3 from m run j h).fits in
          let w = block-whole file (from + j) (let a = run.all in omega arith) in
          let at = arrows-run.row_at j i in
          rw record-sizes.2
          (arrow-record (block_at file (from + j)) w (block-bytes file small (from + j)) _ (capacity 3 * j + i) i (omega arith)
          (rw add-zero at (at 0 h l (omega arith))) (at 1 h l (omega arith)) (at 2 h l (omega arith)) (at 3 h l (omega arith)));
    }
