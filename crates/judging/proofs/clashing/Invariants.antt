use Rattle.judging.proofs.SignLaws.{SignsBelow}
use Rattle.judging.proofs.clashing.Given as goal

abbrev pub invariant-loop-k : goal.invariant-loop-k
invariant-loop-k l = SignsBelow l.arrows l.k l.signs
