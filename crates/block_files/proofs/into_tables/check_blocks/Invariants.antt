use Rattle.std.proofs.Common.{◌≡◌}
use Rattle.std.specs.Prelude.{None as none}
use Rattle.blocks.specs.Files.{block_at, kind_before}
use Rattle.blocks.specs.Steps.{blocks_fault, counts_in}
use Rattle.block_files.proofs.into_tables.check_blocks.Given as goal

abbrev pub invariant-loop-place : goal.invariant-loop-place
invariant-loop-place l = record {
  good : blocks_fault (block_at l.file) l.place ≡ none;
  counted : l.counts ≡ counts_in (block_at l.file) l.place;
  kind : l.before ≡ kind_before (block_at l.file) l.place;
}
