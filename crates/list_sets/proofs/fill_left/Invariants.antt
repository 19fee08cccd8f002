use Rattle.boxsets.specs.Sets.{is_in}
use Rattle.list_sets.proofs.LeftLaws.{Filled}
use Rattle.list_sets.proofs.fill_left.Given as goal

abbrev pub invariant-loop-user : goal.invariant-loop-user
invariant-loop-user l = Filled l.users (λ u f. is_in l.files f) l.user-index l.left
