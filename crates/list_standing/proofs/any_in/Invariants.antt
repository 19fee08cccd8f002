use Rattle.list_standing.proofs.AnyInLaws.{Rests}
use Rattle.list_standing.proofs.any_in.Given as goal

abbrev pub invariant-loop-rest : goal.invariant-loop-rest
invariant-loop-rest g l = Rests (λ k b. g.F.Fn.post l.test (k, tt) b) l.q l.word l.rest

abbrev pub decreases-loop-rest : goal.decreases-loop-rest
decreases-loop-rest g l = l.rest
