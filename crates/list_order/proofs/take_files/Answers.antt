-- `list_order::take_files` meets its contract: what is taken, and what the users not looked at yet still lose, make up the whole. Assumes
-- nothing.
use mathlib.Core.Path.{◌∙◌}
use Rattle.boxsets.proofs.TableLaws.{has_in}
use Rattle.list_order.proofs.TakeLaws.{taking-next}
use Rattle.list_order.proofs.take_files.Goals as goal

pub loop-u-preserved : goal.loop-u-preserved
loop-u-preserved c =
    taking-next c.args.files c.sub-kept.result c.in-Some.ensures.steps (λ f. c.sub-kept.ensures f ∙ rw (c.set_at.ensures, has_in))
    c.put_set.ensures c.loop-u.invariant
