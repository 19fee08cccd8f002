use Rattle.list_sets.proofs.LeftLaws.{NoneMissed}
use Rattle.list_sets.proofs.check_left.Given as goal

abbrev pub invariant-loop-user : goal.invariant-loop-user
invariant-loop-user l = NoneMissed l.users l.left l.granted l.user-index
