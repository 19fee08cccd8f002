-- `checks::wrong_mode` meets its contract: by its two tests. Assumes nothing.
use borrow.Author.Tests.{lt-ltb, le-ltb}
use Rattle.tables.proofs.FaultLaws.{wrong_mode-is}
use Rattle.checks.proofs.wrong_mode.Goals as goal

pub returns-then-a-gt7 : goal.returns-then-a-gt7
returns-then-a-gt7 c = rw (wrong_mode-is, lt-ltb _ _ c.if-a-gt7.true)

pub returns-else-a-gt7 : goal.returns-else-a-gt7
returns-else-a-gt7 c = rw (wrong_mode-is, le-ltb 7 _ c.if-a-gt7.false)
