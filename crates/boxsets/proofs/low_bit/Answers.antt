-- `boxsets::low_bit` meets its contract: as many zeros stand below the lowest set bit. Assumes nothing.
use native.Mathlib.Omega.{arith}
use lib.Count.{trailing_le}
use Rattle.boxsets.proofs.LowBitLaws.{trailing-lowest}
use Rattle.boxsets.proofs.low_bit.Goals as goal

pub overflow_cast-result : goal.overflow_cast-result
overflow_cast-result c = omega (arith, trailing_le 64 c.args.w)

pub returns : goal.returns
returns c = trailing-lowest c.args.w c.requires c.ranges.w.fits
