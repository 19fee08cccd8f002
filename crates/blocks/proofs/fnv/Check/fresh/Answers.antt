-- The fresh check holds the start value. Assumes nothing.
use Rattle.std.proofs.Common.{refl}
use Rattle.blocks.specs.Fnv.{fnv_fold, fnv1a}
use Rattle.blocks.proofs.fnv.Check.fresh.Goals as goal

pub returns : goal.returns
unfolding fnv_fold fnv1a
returns c = refl
