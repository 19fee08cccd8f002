-- What the inner functions of reading ask of each other; no promise of a pub function names it. Assumes nothing.
use Rattle.std.specs.Prelude.{◌≡◌, List, ℕ, ◌+◌, ◌*◌, ◌≤◌}
use Rattle.std.specs.Prelude.{None as none}
use Rattle.blocks.specs.Files.{block_at, block_count}
use Rattle.blocks.specs.Steps.{blocks_fault, count_of, counts_of}
use Rattle.blocks.specs.declared.Head.{Head}
use Rattle.blocks.specs.declared.Counts.{Counts}

-- a block's records are no more than a block holds, and each lent table has room for them after the rows so far
pub record BlockFits (counts : Counts) (head : Head) (boxes rows arrows : ℕ) : Type 0 where
  pub boxes-count : count_of 1 head ≤ 500
  pub rows-count : count_of 2 head ≤ 125
  pub arrows-count : count_of 3 head ≤ 83
  pub boxes-few : counts.boxes ≤ 32000
  pub rows_few : counts.containments ≤ 32000
  pub arrows-few : counts.arrows ≤ 32000
  pub boxes-room : counts.boxes + count_of 1 head ≤ boxes
  pub rows-room : 2 * (counts.containments + count_of 2 head) ≤ rows
  pub arrows-room : 4 * (counts.arrows + count_of 3 head) ≤ arrows

-- good blocks, and lent tables that are long enough for what the file says
pub record Fitting (file : List ℕ) (boxes rows arrows : ℕ) : Type 0 where
  pub few : block_count file ≤ 64
  pub good : blocks_fault (block_at file) (block_count file) ≡ none
  pub boxes-fit : (counts_of file).boxes ≤ boxes
  pub rows_fit : 2 * (counts_of file).containments ≤ rows
  pub arrows-fit : 4 * (counts_of file).arrows ≤ arrows
