use Rattle.std.proofs.Common.{◌≡◌}
use Rattle.base.specs.Buffers.{written}
use Rattle.blocks.specs.Files.{block_at}
use Rattle.blocks.specs.Steps.{table_in, counts_in}
use Rattle.block_files.proofs.into_tables.write_blocks.Given as goal

abbrev pub invariant-loop-place : goal.invariant-loop-place
invariant-loop-place l = record {
  counted : l.at ≡ counts_in (block_at l.file) l.place;
  boxes : l.boxes ≡ written (table_in 1 (block_at l.file) l.place) l.initial.boxes;
  rows : l.rows ≡ written (table_in 2 (block_at l.file) l.place) l.initial.rows;
  arrows : l.arrows ≡ written (table_in 3 (block_at l.file) l.place) l.initial.arrows;
}
