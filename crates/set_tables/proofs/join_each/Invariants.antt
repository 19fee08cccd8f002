use Rattle.boxsets.specs.Sets.{is_in}
use Rattle.boxsets.specs.Members.{to_come}
use Rattle.boxsets.proofs.JoinLaws.{Left}
use Rattle.set_tables.proofs.join_each.Given as goal

abbrev pub invariant-loop-k : goal.invariant-loop-k
invariant-loop-k l = Left l.from (is_in l.fn.numbers) (to_come l.k-iterator) l.x l.initial.t l.t
