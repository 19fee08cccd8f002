-- `atoms::is_unmarked` meets its contract. Assumes nothing.
use Rattle.atoms.specs.Steps.{unmarked}
use Rattle.atoms.proofs.is_unmarked.Goals as goal

pub returns-then-is_single : goal.returns-then-is_single
unfolding unmarked
returns-then-is_single c = rw (← c.is_single.ensures, c.if-is_single.true)

pub returns-else-is_single : goal.returns-else-is_single
unfolding unmarked
returns-else-is_single c = rw (← c.is_single.ensures, c.if-is_single.false)
