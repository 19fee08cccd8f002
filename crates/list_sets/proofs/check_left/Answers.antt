-- `list_sets::check_left` meets its contract: no file of the first users is both left and granted. Assumes nothing.
use native.Mathlib.Omega.{arith}
use Rattle.list_sets.proofs.LeftLaws.{missed_more, missed-none, missed-found}
use Rattle.list_sets.proofs.check_left.Goals as goal

pub returns-in-Some : goal.returns-in-Some
returns-in-Some c pic closure arrows files ready tg tl =
    rw c.from.ensures
    (missed-found c.loop-user.invariant c.from-u.ensures c.set_at.ensures
    c.set_at-in-loop-user.ensures _ c.bitand-missed.ensures _ ready tg tl c.loop-user-test.true c.in-Some.ensures.0 c.in-Some.ensures.1)

pub loop-user-preserved : goal.loop-user-preserved
loop-user-preserved c =
    missed_more c.loop-user.invariant c.from-u.ensures c.set_at.ensures
    c.set_at-in-loop-user.ensures _ c.bitand-missed.ensures c.in_default.ensures

pub returns : goal.returns
returns c pic closure arrows files ready tg tl = missed-none _ ready tg tl c.loop-user.invariant (omega arith)
