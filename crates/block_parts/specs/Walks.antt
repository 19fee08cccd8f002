-- The walk over the rows of a kind, and what the loops over a block's records ask. What `pack` promises does not speak of them.
-- Assumes nothing.
use Rattle.std.specs.Prelude.{◌≡◌, ℕ, ◌+◌, ◌*◌, ◌/◌, ◌%◌, ◌^◌, ◌<◌, ◌≤◌}
use Rattle.block_parts.specs.declared.Walk.{Walk}

-- document 02, P5: where the walk stands at a row. The place is the remainder of the row's number by the kind's capacity, and the block
-- the quotient, counted from the kind's first block
abbrev pub walk_at : (capacity row : ℕ) → Walk
walk_at capacity row = record { row = row; block = row / capacity; place = row % capacity }

-- the walk stands at the first place of a block, and so many records follow: as many rows of the table as that, no more than the block
-- holds, and room for them from a byte of the file on
pub record Run (size capacity rows : ℕ) (w : Walk) (count at len : ℕ) : Type 0 where
  pub few : rows ≤ 1024
  pub rows_left : w.row + count ≤ rows
  pub most : count ≤ capacity
  pub walked : w ≡ walk_at capacity w.row
  pub the-place : w.place ≡ 0
  pub the-byte : at < 2 ^ 32
  pub room : at + size * count ≤ len
