-- Each return is one of the order's cases: refused by length, by a block, by a table, or read. Assumes nothing.
use Rattle.std.proofs.Common.{Result, Ok, Err, rules}
use Rattle.tables.specs.declared.Refusal.{Refusal}
use Rattle.std.specs.Prelude.{None as none}
use mathlib.Core.Path.{◌≡◌, sym, ◌∙◌}
use mathlib.Core.List.{List}
use Prim.Native.Nat.{ℕ}
use lib.ListN.{length}
use Rattle.tables.proofs.Verdicts.{passed, refused}
use Rattle.blocks.specs.Files.{block_at, block_count, length_fault}
use Rattle.blocks.specs.Reads.{answer_of}
use Rattle.blocks.specs.declared.Counts.{Counts}
use Rattle.blocks.specs.Steps.{blocks_fault, counts_of}
use Rattle.blocks.proofs.Order.{answer-tables, answer-refused, length_whole, by_length, by_blocks, by-tables, read-refused, read_done}
use Rattle.block_files.proofs.Fits.{fitting}
use Rattle.block_files.proofs.into_tables.read.Goals.{In_ok-check_length}
use Rattle.block_files.proofs.into_tables.read.Goals as goal

whole : (c : In_ok-check_length) → length_fault (length c.args.file.now) ≡ none
whole c = passed _ (sym c.check_length.ensures ∙ c.in_ok-check_length.was)

scanned : (file : List ℕ) (r : Result Counts Refusal) (counts : Counts) → r ≡ answer_of (blocks_fault (block_at file) (block_count file)) (counts_of file)
    → r ≡ Ok counts → (blocks_fault (block_at file) (block_count file) ≡ none) × (counts_of file ≡ counts)
scanned file r counts e f = answer-tables (blocks_fault (block_at file) (block_count file)) (counts_of file) counts (sym e ∙ f)

pub returns-in_err-check_length : goal.returns-in_err-check_length
returns-in_err-check_length c = let a = c.args in
    let w = read-refused a.file.now a.boxes.now a.rows.now a.arrows.now
    (by_length _ _ _ _ (refused _ _ (sym c.check_length.ensures ∙ c.in_err-check_length.was))) in
    record { result_value = let h = w.0 in search rules; boxes_after = w.1.0; rows_after = w.1.1.0; arrows_after = w.1.1.1 }

pub check_blocks-requires : goal.check_blocks-requires
check_blocks-requires c = (length_whole _ (whole c)).1

pub returns-in_err-counts : goal.returns-in_err-counts
returns-in_err-counts c = let a = c.args in
    let w = read-refused a.file.now a.boxes.now a.rows.now a.arrows.now
    (by_blocks _ _ _ _ (whole (goal.at.returns-in_err-counts c).In_ok-check_length)
    (answer-refused _ _ _ (sym c.check_blocks.ensures ∙ c.in_err-counts.was))) in
    record { result_value = let h = w.0 in search rules; boxes_after = w.1.0; rows_after = w.1.1.0; arrows_after = w.1.1.1 }

pub returns-in_err-check_tables : goal.returns-in_err-check_tables
returns-in_err-check_tables c = let a = c.args in
    let e : c.from_residual-in_err-check_tables.result ≡ Err c.in_err-check_tables.field-0.0 = search rules in
    let s = scanned _ _ _ c.check_blocks.ensures c.in_ok-counts.was in
    let w = read-refused a.file.now a.boxes.now a.rows.now a.arrows.now
    (by-tables _ _ _ _ (whole (goal.at.returns-in_err-check_tables c).In_ok-check_length) s.0
    ∙ rw s.1 (refused _ _ (sym c.check_tables.ensures ∙ c.in_err-check_tables.was))) in
    record { result_value = e ∙ w.0; boxes_after = w.1.0; rows_after = w.1.1.0; arrows_after = w.1.1.1 }

pub write_blocks-requires : goal.write_blocks-requires
write_blocks-requires c = let s = scanned _ _ _ c.check_blocks.ensures c.in_ok-counts.was in
    fitting _ _ _ _ (whole (goal.at.write_blocks-requires c).In_ok-check_length) s.0 (rw s.1 (passed _ (sym c.check_tables.ensures ∙ c.in_ok-check_tables.was)))

pub returns : goal.returns
returns c = let a = c.args in
    let e = c.write_blocks.ensures in
    let s = scanned _ _ _ c.check_blocks.ensures c.in_ok-counts.was in
    let w = read_done a.file.now a.boxes.now a.rows.now a.arrows.now _ _ _ _
    (by-tables _ _ _ _ (whole (goal.at.returns c).In_ok-check_length) s.0 ∙ rw s.1 (passed _ (sym c.check_tables.ensures ∙ c.in_ok-check_tables.was)))
    s.1 e.boxes_after e.rows_after e.arrows_after in
    record { result_value = w.0; boxes_after = w.1.0; rows_after = w.1.1.0; arrows_after = w.1.1.1 }
