use Rattle.matrices.proofs.FillLaws.{Rows}
use Rattle.matrices.proofs.fill_matrix.Given as goal

abbrev pub invariant-loop-i : goal.invariant-loop-i
invariant-loop-i l =
    Rows l.closure l.arrows l.mode l.users l.files l.initial.bytes l.initial.numbers l.i l.notes l.bytes l.numbers
