-- `set_tables::join_each` meets its contract: what is joined, and what the numbers to come still ask for, make up the whole. Assumes nothing.
use Rattle.boxsets.proofs.JoinLaws.{left-next}
use Rattle.set_tables.proofs.join_each.Goals as goal

pub loop-k-preserved : goal.loop-k-preserved
loop-k-preserved c =
    left-next c.args.x c.bitor-y.result c.set_at.result c.in-Some.ensures.steps c.set_at.ensures c.bitor-y.ensures c.put_set.ensures
    c.loop-k.invariant
