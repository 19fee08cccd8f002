use Rattle.user_rows.proofs.RowWalk.{Walking}
use Rattle.user_rows.proofs.walk.walk.Given as goal

abbrev pub invariant-loop-k : goal.invariant-loop-k
invariant-loop-k g l =
    Walking l.closure l.heads l.arrows l.own l.x l.fn.files (g.N.Numbers.shows l.fn.numbers) (g.N.Numbers.shows l.numbers)
    l.granted l.unclear l.k-index
