-- `listing::is_used` meets its contract: an arrow has the mode. Assumes nothing.
use Rattle.std.proofs.Common.{rules, tests, refl, arith}
use Rattle.std.proofs.lemmas.Iterator.{cases_from_any, YieldsList-from_range}
use Rattle.tables.specs.Rows.{arrow_count}
use Rattle.listing.proofs.ModeLaws.{HasMode, HasOther, used-is}
use Rattle.listing.proofs.is_used.Goals as goal

pub returns : goal.returns
returns c =
    let arrows = c.args.arrows.now in
    let m = c.args.mode in
    used-is arrows m _
    (cases_from_any _ _ _ (HasMode arrows m) (HasOther arrows m) c.any.ensures.ran
    (YieldsList-from_range 0 (arrow_count arrows) (arrow_count arrows) refl (omega arith))
    (λ x q k. search (rules, tests)) (λ x q k. search (rules, tests)))
