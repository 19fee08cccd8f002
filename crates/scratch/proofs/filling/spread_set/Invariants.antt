use Rattle.boxsets.specs.Sets.{is_in}
use Rattle.boxsets.specs.Members.{to_come}
use Rattle.boxsets.proofs.TakesLaws.{Places}
use Rattle.scratch.proofs.filling.spread_set.Given as goal

abbrev pub invariant-loop-b : goal.invariant-loop-b
invariant-loop-b l = Places l.at 1 (is_in l.fn.x) (to_come l.b-iterator) l.initial.scratch l.scratch
