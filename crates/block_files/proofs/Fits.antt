-- That the lent tables have room for each block in turn. Assumes nothing.
use mathlib.Core.Path.{◌≡◌}
use mathlib.Core.List.{List}
use Rattle.std.specs.Prelude.{None as none}
use Prim.Native.Nat.{ℕ, ◌+◌, ◌<◌}
use native.Mathlib.Omega.{arith}
use lib.ListN.{length}
use Rattle.blocks.specs.Blocks.{head_of}
use Rattle.blocks.specs.Files.{block_at, block_count, length_fault}
use Rattle.blocks.specs.Steps.{blocks_fault, counts_in, counts_of, tables_fault}
use Rattle.blocks.proofs.Counting.{counts_with_lem, counts-more, Holds, good-holds, blocks-before, Few, few-counts, counts-most}
use Rattle.blocks.proofs.Order.{length_whole, tables-fit}
use Rattle.block_files.specs.Steps.{BlockFits, Fitting}

-- where no check finds a fault
pub fitting : (file : List ℕ) (boxes rows arrows : ℕ) → length_fault (length file) ≡ none → blocks_fault (block_at file) (block_count file) ≡ none
    → tables_fault (counts_of file) boxes rows arrows ≡ none → Fitting file boxes rows arrows
fitting file boxes rows arrows whole good e =
    let room = tables-fit (counts_of file) boxes rows arrows e in
    let short = (length_whole (length file) whole).1 in
    record {
      few = omega arith;
      good = good;
      boxes-fit = room.0;
      rows_fit = room.1;
      arrows-fit = room.2;
    }

-- what a turn of the loop that writes the blocks needs
pub block-fits : (file : List ℕ) (k boxes rows arrows : ℕ) → Fitting file boxes rows arrows → k < block_count file
    → BlockFits (counts_in (block_at file) k) (head_of (block_at file k)) boxes rows arrows
block-fits file k boxes rows arrows f h =
    let m = rw (counts-more (block_at file) k, counts_with_lem (counts_in (block_at file) k) (head_of (block_at file k))) at
    (counts-most (block_at file) (k + 1) (block_count file) (omega arith)) in
    let g : Holds (head_of (block_at file k)) = good-holds (block_at file) k (block_count file) h f.good in
    let l : Few k (counts_in (block_at file) k) = few-counts (block_at file) k (blocks-before (block_at file) k (block_count file) (omega arith) f.good) in
    record {
      boxes-count = g.boxes-count;
      rows-count = g.rows-count;
      arrows-count = g.arrows-count;
      boxes-few = omega arith;
      rows_few = omega arith;
      arrows-few = omega arith;
      boxes-room = omega arith;
      rows-room = omega arith;
      arrows-room = omega arith;
    }
