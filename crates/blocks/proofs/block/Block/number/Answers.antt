-- Two bytes make a number of 16 bits. Assumes nothing.
use Rattle.std.proofs.Common.{arith}
use Rattle.blocks.specs.Blocks.{number16}
use Rattle.blocks.proofs.block.Block.number.Goals as goal

pub returns : goal.returns
unfolding number16
returns c = omega (arith, c.from_le_bytes.ensures)
