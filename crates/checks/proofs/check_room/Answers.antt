-- `checks::check_room` meets its contract: one fault. Assumes nothing.
use Rattle.tables.proofs.FaultLaws.{room_fault-is}
use Rattle.checks.proofs.check_room.Goals as goal

pub returns : goal.returns
returns c = rw room_fault-is c.refuse_if.ensures
