-- The part that is folded is the block's first 508 bytes. Assumes nothing.
use Rattle.std.proofs.Common.{sym}
use Rattle.blocks.proofs.MadeBlocks.{check-is}
use Rattle.blocks.proofs.block.Block.computed_check.Goals as goal

pub returns : goal.returns
returns c = rw (c.part.ensures, c.fresh.ensures) (sym (check-is _))
