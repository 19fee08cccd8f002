use Rattle.boxsets.proofs.AmongLaws.{Taken}
use Rattle.boxsets.proofs.Set.of.Given as goal

abbrev pub invariant-loop-k : goal.invariant-loop-k
invariant-loop-k l = Taken l.numbers l.k-index l.x
