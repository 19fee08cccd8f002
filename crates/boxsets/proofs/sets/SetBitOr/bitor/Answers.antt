-- `bitor` of two sets meets its contract: bit by bit. Assumes nothing.
use mathlib.Core.Path.{refl}
use mathlib.Core.Bool.{◌||◌}
use lib.Bits.{bit_or}
use Rattle.boxsets.proofs.WordLaws.{or-bit}
use Rattle.boxsets.proofs.MemberLaws.{both-in}
use Rattle.boxsets.proofs.sets.SetBitOr.bitor.Goals as goal

pub returns : goal.returns
returns c =
    let a = c.args in
    both-in bit_or ◌||◌ or-bit refl a.self a.other
