-- `boxsets::Set::empty` meets its contract: no word has a bit. Assumes nothing.
use mathlib.Core.Path.{refl}
use Rattle.boxsets.proofs.MemberLaws.{empty-in}
use Rattle.boxsets.proofs.Set.empty.Goals as goal

pub returns : goal.returns
returns c = empty-in _ refl refl refl refl
