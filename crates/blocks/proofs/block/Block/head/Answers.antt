-- The fields are the head's bytes and numbers. Assumes nothing.
use Rattle.std.proofs.Common.{rules}
use Rattle.blocks.specs.Blocks.{head_of}
use Rattle.blocks.proofs.block.Block.head.Goals as goal

pub returns : goal.returns
unfolding head_of
returns c = search rules
