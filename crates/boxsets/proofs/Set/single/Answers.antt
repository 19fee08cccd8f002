-- `boxsets::Set::single` meets its contract: by the word that has the number. Assumes nothing.
use Prim.Native.Nat.{◌%◌}
use native.Mathlib.Omega.{arith}
use Rattle.boxsets.proofs.WordLaws.{one_shifted}
use Rattle.boxsets.proofs.MemberLaws.{added-in}
use Rattle.boxsets.proofs.Set.single.Goals as goal

pub returns-in-0 : goal.returns-in-0
returns-in-0 c =
    let k = c.args.k in
    rw (one_shifted (k % 64) (omega arith)) (added-in c.empty-x.result c.empty-x.ensures 0 k (omega arith) (omega arith))

pub returns-in-1 : goal.returns-in-1
returns-in-1 c =
    let k = c.args.k in
    rw (one_shifted (k % 64) (omega arith)) (added-in c.empty-x.result c.empty-x.ensures 1 k (omega arith) (omega arith))

pub returns-in-2 : goal.returns-in-2
returns-in-2 c =
    let k = c.args.k in
    rw (one_shifted (k % 64) (omega arith)) (added-in c.empty-x.result c.empty-x.ensures 2 k (omega arith) (omega arith))

pub returns-in_default : goal.returns-in_default
returns-in_default c =
    let k = c.args.k in
    rw (one_shifted (k % 64) (omega arith)) (added-in c.empty-x.result c.empty-x.ensures 3 k (omega arith) (omega arith))
