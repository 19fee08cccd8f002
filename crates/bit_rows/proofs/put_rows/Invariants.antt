use Rattle.bit_rows.proofs.RowLaws.{Filled}
use Rattle.bit_rows.proofs.put_rows.Given as goal

abbrev pub invariant-loop-a : goal.invariant-loop-a
invariant-loop-a l = Filled l.n l.a l.sets l.initial.out l.out
