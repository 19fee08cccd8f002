-- `into_iter` meets its contract: the walk begins at 0. Assumes nothing.
use Rattle.boxsets.specs.Members.{to_come}
use Rattle.boxsets.proofs.ReachLaws.{reaches-all, in_reach}
use Rattle.boxsets.proofs.walk.SetIntoIterator.into_iter.Goals as goal

pub invariant_of-result : goal.invariant_of-result
invariant_of-result c = record { in_reach = in_reach c.args.self }

pub returns : goal.returns
unfolding to_come
returns c = record { into_iter_gives = reaches-all c.args.self }
