-- Document 01, "Block files": a block reader keeps the caller's bytes together with its place; what it sees there, and where
-- the next one stands. Assumes nothing.
use Rattle.std.specs.Prelude.{Option, Some, None, cond, List, ℕ, ◌+◌, ltb}
use Rattle.blocks.specs.Blocks.{head_of}
use Rattle.blocks.specs.Files.{block_at, block_count}
use Rattle.blocks.specs.declared.Head.{Head}

-- the head of the block at a number, where the file has such a block
unfoldable pub seen_at : (file : List ℕ) (block : ℕ) → Option Head
seen_at file block = cond (ltb block (block_count file)) (Some (head_of (block_at file block))) None

-- the number of the next block, up to the number behind the last block
unfoldable pub next_block : (file : List ℕ) (block : ℕ) → ℕ
next_block file block = cond (ltb block (block_count file)) (block + 1) block
