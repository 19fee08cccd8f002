-- `tables::on_side` meets its contract: the box is there, and its byte puts it on the side. Assumes nothing.
use borrow.Author.Tests.{lt-ltb, le-ltb}
use Rattle.tables.specs.Rows.{on_side}
use Rattle.tables.proofs.sides.on_side.Goals as goal

pub returns-then-b-boxes : goal.returns-then-b-boxes
unfolding on_side
returns-then-b-boxes c = rw (c.side_of.ensures, lt-ltb _ _ c.if-b-boxes.true)

pub returns-else-b-boxes : goal.returns-else-b-boxes
unfolding on_side
returns-else-b-boxes c = rw (le-ltb _ _ c.if-b-boxes.false)
