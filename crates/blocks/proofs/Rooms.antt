-- What the answer of reading says of the tables that are read. Assumes nothing.
use mathlib.Core.Path.{◌≡◌, sym, ap, ◌∙◌}
use mathlib.Core.List.{List}
use Rattle.std.specs.Prelude.{None as none, Some as some}
use Prim.Native.Nat.{ℕ, ◌*◌, ◌≤◌}
use lib.ListN.{length, take}
use Rattle.tables.specs.declared.Refusal.{Refusal}
use Rattle.base.proofs.PartLaws.{part-is}
use Rattle.tables.proofs.TableLaws.{both-none, room-passed}
use Rattle.blocks.specs.Files.{block_count, block_at, table_of}
use Rattle.blocks.specs.Reads.{row_counts, read_fault}
use Rattle.blocks.specs.Steps.{ReadDone}
use Rattle.blocks.specs.declared.Counts.{Counts}
use Rattle.std.proofs.Common.{Ok, Err}
use Rattle.blocks.proofs.Counting.{rows-length, arrows-length}
use Rattle.blocks.proofs.Order.{answer-tables, answer-refused}

-- they have room for as many rows as it says
pub read_fits : (file boxes rows arrows boxes_end rows_end arrows_end : List ℕ) {counts : Counts}
    → ReadDone file boxes rows arrows boxes_end rows_end arrows_end (Ok counts)
    → (counts.boxes ≤ length boxes) × (2 * counts.containments ≤ length rows) × (4 * counts.arrows ≤ length arrows)
unfolding read_fault
read_fits file boxes rows arrows boxes_end rows_end arrows_end d =
    let clean = answer-tables (read_fault file boxes rows arrows) _ _ (sym d.0) in
    let room = both-none _ _ (both-none _ _ (both-none _ _ clean.0).1).1 in
    let rest = both-none _ _ room.1 in
    rw (← clean.1) (room-passed 5 _ _ room.0, room-passed 6 _ _ rest.0, room-passed 7 _ _ rest.1)

-- a refusal is that of the file
pub read-stopped : (file boxes rows arrows boxes_end rows_end arrows_end : List ℕ) {r : Refusal}
    → ReadDone file boxes rows arrows boxes_end rows_end arrows_end (Err r)
    → read_fault file boxes rows arrows ≡ some r
read-stopped file boxes rows arrows boxes_end rows_end arrows_end d =
    answer-refused (read_fault file boxes rows arrows) _ _ (sym d.0)

-- the counted rows are what the file says
pub record ReadAs (file boxes rows arrows boxes_end rows_end arrows_end : List ℕ) (counts : Counts) : Type 0 where
  pub no-fault : read_fault file boxes rows arrows ≡ none
  pub boxes-read : take counts.boxes boxes_end ≡ table_of 1 file
  pub rows-read : take (2 * counts.containments) rows_end ≡ table_of 2 file
  pub arrows-read : take (4 * counts.arrows) arrows_end ≡ table_of 3 file

pub read-tables : (file boxes rows arrows boxes_end rows_end arrows_end : List ℕ) {counts : Counts}
    → ReadDone file boxes rows arrows boxes_end rows_end arrows_end (Ok counts)
    → ReadAs file boxes rows arrows boxes_end rows_end arrows_end counts
unfolding row_counts
read-tables file boxes rows arrows boxes_end rows_end arrows_end {counts} d =
    let clean = answer-tables (read_fault file boxes rows arrows) _ _ (sym d.0) in
    let good = clean.0 in
    record {
      no-fault = good;
      boxes-read =
          part-is (table_of 1 file) boxes counts.boxes boxes_end (
            ap (λ (k : Counts). k.boxes) (sym clean.1),
            rw good at d.1.0,
          );
      rows-read =
          part-is (table_of 2 file) rows (2 * counts.containments) rows_end (
            ap (λ (k : Counts). 2 * k.containments) (sym clean.1) ∙ sym (rows-length (block_at file) (block_count file)),
            rw good at d.1.1.0,
          );
      arrows-read =
          part-is (table_of 3 file) arrows (4 * counts.arrows) arrows_end (
            ap (λ (k : Counts). 4 * k.arrows) (sym clean.1) ∙ sym (arrows-length (block_at file) (block_count file)),
            rw good at d.1.1.1,
          );
    }
