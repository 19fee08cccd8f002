use Rattle.boxsets.specs.Sets.{is_in}
use Rattle.boxsets.specs.Members.{to_come}
use Rattle.boxsets.proofs.TakesLaws.{Places}
use Rattle.user_rows.proofs.numbers.ArrayU16BoxRowLIMITNumbers.put.Given as goal

abbrev pub invariant-loop-f : goal.invariant-loop-f
invariant-loop-f l = Places 0 l.number (is_in l.fn.hit) (to_come l.f-iterator) l.fn.self l.self
