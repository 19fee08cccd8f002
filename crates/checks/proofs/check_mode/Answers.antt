-- `checks::check_mode` meets its contract: one fault. Assumes nothing.
use Rattle.tables.proofs.FaultLaws.{mode_fault-is}
use Rattle.checks.proofs.check_mode.Goals as goal

pub returns : goal.returns
returns c = rw (mode_fault-is, c.refuse_if.ensures, c.from.ensures)
