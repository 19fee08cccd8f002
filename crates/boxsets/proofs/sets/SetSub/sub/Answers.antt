-- `sub` of two sets meets its contract: bit by bit. Assumes nothing.
use mathlib.Core.Path.{refl}
use mathlib.Core.Bool.{◌&&◌, not}
use lib.Bits.{and_le_l}
use Rattle.boxsets.proofs.WordLaws.{less, less-bit}
use Rattle.boxsets.proofs.MemberLaws.{both-in}
use Rattle.boxsets.proofs.sets.SetSub.sub.Goals as goal

pub returns : goal.returns
returns c =
    let a = c.args in
    both-in less (λ s t. s && not t) less-bit refl a.self a.other

pub overflow_sub-result : goal.overflow_sub-result
overflow_sub-result c = and_le_l _ _

pub overflow_sub-result-2 : goal.overflow_sub-result-2
overflow_sub-result-2 c = and_le_l _ _

pub overflow_sub-result-3 : goal.overflow_sub-result-3
overflow_sub-result-3 c = and_le_l _ _

pub overflow_sub-result-4 : goal.overflow_sub-result-4
overflow_sub-result-4 c = and_le_l _ _
