-- `tables::refuse_if` meets its contract: by the fault given. Assumes nothing.
use Rattle.base.proofs.SearchLaws.{given-true, given-false}
use Rattle.tables.proofs.refuse_if.Goals as goal

pub returns-then-fault : goal.returns-then-fault
returns-then-fault c = rw (given-true _ _ c.if-fault.true)

pub returns-else-fault : goal.returns-else-fault
returns-else-fault c = rw (given-false _ _ c.if-fault.false)
