use Rattle.cells.specs.Steps.{Copied}
use Rattle.cells.proofs.copy_cells.Given as goal

abbrev pub invariant-loop-j : goal.invariant-loop-j
invariant-loop-j g l = Copied l.from l.at l.j l.initial.cells l.cells
