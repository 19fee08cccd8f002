-- `boxsets::drop_bit` meets its contract: 1 less has the same bits above the lowest. Assumes nothing.
use Prim.Native.Nat.{◌-◌}
use native.Mathlib.Omega.{arith}
use lib.Bits.{and_le_r}
use Rattle.boxsets.proofs.LowBitLaws.{drop-bit}
use Rattle.boxsets.proofs.drop_bit.Goals as goal

pub returns : goal.returns
returns c = record {
  by_index = drop-bit c.args.w;
  upper_bound = omega (arith, and_le_r c.args.w (c.args.w - 1));
}
