-- `list_sets::fill_left` meets its contract: each of the first users has all files. Assumes nothing.
use mathlib.Core.Path.{refl}
use native.Mathlib.Omega.{arith}
use Rattle.list_sets.proofs.LeftLaws.{filled_none, filled_more, filled-files}
use Rattle.list_sets.proofs.fill_left.Goals as goal

pub loop-user-init : goal.loop-user-init
loop-user-init c = filled_none c.requires.1

pub loop-user-preserved : goal.loop-user-preserved
loop-user-preserved c = filled_more c.from.ensures (λ f. refl) c.put_set.ensures c.loop-user.invariant

pub returns : goal.returns
returns c pic closure arrows ready = filled-files ready (omega arith) c.loop-user.invariant
