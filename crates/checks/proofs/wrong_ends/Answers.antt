-- `checks::wrong_ends` meets its contract: by the two ends. Assumes nothing.
use Rattle.tables.proofs.FaultLaws.{wrong_ends-is}
use Rattle.checks.proofs.wrong_ends.Goals as goal

pub returns-then-not-from_user : goal.returns-then-not-from_user
returns-then-not-from_user c = rw (wrong_ends-is, ← c.from.ensures, ← c.on_side-from_user.ensures, c.if-not-from_user.true)

pub returns-else-not-from_user : goal.returns-else-not-from_user
returns-else-not-from_user c = rw (wrong_ends-is, c.on_side.ensures, c.from-else-not-from_user.ensures, ← c.from.ensures, ← c.on_side-from_user.ensures, c.if-not-from_user.false)
