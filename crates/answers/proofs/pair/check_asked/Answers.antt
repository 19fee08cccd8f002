-- `answers::pair::check_asked` meets its contract: the test of check 11. Assumes nothing.
use Rattle.answers.specs.Calls.{asked_fault}
use Rattle.answers.proofs.pair.check_asked.Goals as goal

pub returns : goal.returns
unfolding asked_fault
returns c = rw (c.refuse_if.ensures, c.is_pair.ensures)
