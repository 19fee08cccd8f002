-- `set_tables::union_of` meets its contract: what is found, and what the numbers to come still give, make up the whole. Assumes nothing.
use Rattle.boxsets.proofs.UnionLaws.{found-next, found-end}
use Rattle.set_tables.proofs.union_of.Goals as goal

pub loop-k-preserved : goal.loop-k-preserved
loop-k-preserved c =
    let a = c.args in
    found-next a.t.now a.from c.loop-k.found c.set_at.result c.bitor-found.result c.in-Some.ensures.steps c.set_at.ensures
    c.bitor-found.ensures c.loop-k.invariant

pub returns : goal.returns
returns c = found-end c.args.t.now c.args.from c.loop-k.found (λ a. (c.in-None.ensures.steps a).0) c.loop-k.invariant
