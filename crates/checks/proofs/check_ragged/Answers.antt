-- `checks::check_ragged` meets its contract: two faults, the lower table first. Assumes nothing.
use borrow.Author.Rules.{rules}
use Rattle.tables.proofs.FaultLaws.{ragged_fault-is}
use Rattle.tables.proofs.Verdicts.{refused-by, passed-by}
use Rattle.checks.proofs.check_ragged.Goals as goal

pub returns-in_err-refuse_if : goal.returns-in_err-refuse_if
returns-in_err-refuse_if c = rw ragged_fault-is (search (rules, refused-by, passed-by))

pub returns : goal.returns
returns c = rw ragged_fault-is (search (rules, refused-by, passed-by))
