-- `listing::start` meets its contract: no pair is before the first row. Assumes nothing.
use Rattle.base.proofs.PartLaws.{part-is}
use Rattle.listing.specs.PairRows.{used_modes}
use Rattle.listing.proofs.StandLaws.{stands-first}
use Rattle.listing.proofs.start.Goals as goal

pub returns-clause-stands : goal.returns-clause-stands
returns-clause-stands c = λ pic e.
    let told = c.used_modes-used.ensures in
    let count = rw e at told.value in
    let after = rw e at told.out_after in
    stands-first pic _ _ (part-is (used_modes pic.arrows) _ _ _ (count, after)) count
