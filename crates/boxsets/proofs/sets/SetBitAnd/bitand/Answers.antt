-- `bitand` of two sets meets its contract: bit by bit. Assumes nothing.
use mathlib.Core.Path.{refl}
use mathlib.Core.Bool.{◌&&◌}
use lib.Bits.{bit_and}
use Rattle.boxsets.proofs.WordLaws.{and-bit}
use Rattle.boxsets.proofs.MemberLaws.{both-in}
use Rattle.boxsets.proofs.sets.SetBitAnd.bitand.Goals as goal

pub returns : goal.returns
returns c =
    let a = c.args in
    both-in bit_and ◌&&◌ and-bit refl a.self a.other
