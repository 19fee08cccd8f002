-- `checks::names_no_box` meets its contract: by its two tests. Assumes nothing.
use borrow.Author.Tests.{le-leb, lt-leb}
use Rattle.tables.proofs.FaultLaws.{names_no_box-is}
use Rattle.checks.proofs.names_no_box.Goals as goal

pub returns-then-boxes-from : goal.returns-then-boxes-from
returns-then-boxes-from c = rw (names_no_box-is, ← c.from.ensures, le-leb _ _ c.if-boxes-from.true)

pub returns-else-boxes-from : goal.returns-else-boxes-from
returns-else-boxes-from c = rw (names_no_box-is, c.from-else-boxes-from.ensures, ← c.from.ensures, lt-leb _ _ c.if-boxes-from.false)
