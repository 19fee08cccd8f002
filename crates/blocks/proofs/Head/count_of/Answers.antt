-- The count is that of a block of the kind, else 0. Assumes nothing.
use borrow.Author.Tests.{eq-eqb, ne_eqb}
use Rattle.blocks.specs.Steps.{count_of}
use Rattle.blocks.proofs.Head.count_of.Goals as goal

pub returns-then-self-kind : goal.returns-then-self-kind
unfolding count_of
returns-then-self-kind c = rw (eq-eqb _ _ c.if-self-kind.true, c.from.ensures)

pub returns : goal.returns
unfolding count_of
returns c = rw (ne_eqb _ _ c.if-self-kind.false)
