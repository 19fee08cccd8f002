-- `checks::check_counts` meets its contract: three faults, the lower table first. Assumes nothing.
use borrow.Author.Rules.{rules}
use Rattle.tables.proofs.FaultLaws.{count_fault-is}
use Rattle.tables.proofs.Verdicts.{refused-by, passed-by}
use Rattle.checks.proofs.check_counts.Goals as goal

pub returns-in_err-refuse_if : goal.returns-in_err-refuse_if
returns-in_err-refuse_if c = rw count_fault-is (search (rules, refused-by, passed-by))

pub returns-in_err-refuse_if-2 : goal.returns-in_err-refuse_if-2
returns-in_err-refuse_if-2 c = rw count_fault-is (search (rules, refused-by, passed-by))

pub returns : goal.returns
returns c = rw count_fault-is (search (rules, refused-by, passed-by))
