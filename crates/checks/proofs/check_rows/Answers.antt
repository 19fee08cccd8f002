-- `checks::check_rows` meets its contract: no row before k fails the check. Assumes nothing.
use mathlib.Core.Path.{sym, ap, ◌∙◌}
use native.Mathlib.Omega.{arith}
use Rattle.base.specs.Search.{given}
use Rattle.base.proofs.SearchLaws.{first-is, first-nothing, given-true, given-false}
use Rattle.tables.proofs.FaultLaws.{row_fault-is}
use Rattle.tables.specs.Refusals.{verdict_of}
use Rattle.checks.proofs.check_rows.Goals as goal

pub returns-then-fails : goal.returns-then-fails
returns-then-fails g c bad named fails names =
    let k = c.loop-k.k in
    let n = c.args.n in
    rw (names k _ (omega arith) c.refusal.ensures)
    (sym (ap verdict_of (row_fault-is named bad n
    ∙ first-is (λ j. given (bad j) (named j)) n (named k) (
      k,
      omega arith,
      given-true _ _ (sym (fails k _ (omega arith) c.if-fails.ensures)),
      λ j l. given-false _ _ (sym (fails j _ (omega arith) (c.loop-k.invariant.1 j l))),
    ))))

pub returns : goal.returns
returns g c bad named fails names =
    let n = c.args.n in
    sym (ap verdict_of (row_fault-is named bad n
    ∙ first-nothing (λ j. given (bad j) (named j)) n (λ j l. given-false _ _ (sym (fails j _ l (c.loop-k.invariant.1 j (omega arith)))))))
