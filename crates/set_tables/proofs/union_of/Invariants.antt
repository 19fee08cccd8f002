use Rattle.boxsets.specs.Sets.{is_in}
use Rattle.boxsets.specs.Members.{to_come}
use Rattle.boxsets.proofs.UnionLaws.{Found}
use Rattle.set_tables.proofs.union_of.Given as goal

abbrev pub invariant-loop-k : goal.invariant-loop-k
invariant-loop-k l = Found l.t l.from (is_in l.fn.numbers) (to_come l.k-iterator) l.found
