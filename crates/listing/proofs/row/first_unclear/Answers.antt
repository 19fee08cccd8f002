-- `listing::row::first_unclear` meets its contract: the set is empty, or its lowest number is below 256. Assumes nothing.
use Prim.Native.Nat.{◌<◌}
use native.Mathlib.Omega.{arith}
use borrow.Author.Tests.{lt-ltb, le-ltb}
use Rattle.base.proofs.SearchLaws.{given-true, given-false}
use Rattle.boxsets.specs.Sets.{low}
use Rattle.listing.proofs.row.first_unclear.Goals as goal

pub returns-in-Some : goal.returns-in-Some
returns-in-Some c =
    let found = c.in-Some.ensures in
    let below : low c.args.files < 256 = rw (← found.1) found.0 in
    rw (given-true _ _ (lt-ltb (low c.args.files) 256 below), found.1, c.from.ensures)

pub returns-in-None : goal.returns-in-None
returns-in-None c = rw (given-false _ _ (le-ltb (low c.args.files) 256 (omega (arith, c.in-None.ensures))))
