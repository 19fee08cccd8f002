-- The part of the file has the block's bytes. Assumes nothing.
use Rattle.std.proofs.Common.{rules}
use Rattle.blocks.specs.Files.{block_at}
use Rattle.blocks.proofs.block.Block.at.Goals as goal

pub returns : goal.returns
unfolding block_at
returns c = search rules
