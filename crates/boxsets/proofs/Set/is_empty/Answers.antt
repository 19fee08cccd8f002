-- `boxsets::Set::is_empty` meets its contract: all four words are 0. Assumes nothing.
use native.Mathlib.Omega.{arith}
use Rattle.boxsets.proofs.LowLaws.{empty-test, words-fit}
use Rattle.boxsets.proofs.Set.is_empty.Goals as goal

pub returns : goal.returns
returns c = let x = c.args.self in
    empty-test x (words-fit x (omega arith) (omega arith) (omega arith) (omega arith))
