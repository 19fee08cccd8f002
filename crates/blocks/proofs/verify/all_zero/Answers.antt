-- Bytes or-ed together are zero if each is. Assumes nothing.
use Rattle.std.proofs.Common.{◌≡◌, rules}
use Rattle.std.specs.List.{fold}
use Rattle.std.specs.Int.Bits.{bit_or}
use Rattle.blocks.proofs.Heads.{or-fold}
use Rattle.blocks.proofs.verify.all_zero.Goals as goal

pub returns : goal.returns
returns c = let e : c.fold.result ≡ fold bit_or 0 c.args.s.now = search rules in rw e (or-fold 0 c.args.s.now)
