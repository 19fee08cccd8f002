-- `certificates::outside_all` meets its contract: what is left of the files, less what is in the rest of the boxes, stays the
-- same (`Kept`). Assumes nothing.
use mathlib.Core.Path.{sym, ◌∙◌}
use native.Mathlib.Omega.{arith}
use Rattle.boxsets.proofs.LowLaws.{low-in, none_in}
use Rattle.boxsets.proofs.WalkLaws.{empty-none}
use Rattle.certificates.proofs.OutsideWalk.{kept-turn, kept-boxes, kept-files, kept-end}
use Rattle.certificates.proofs.outside_all.Goals as goal

-- a box is left, and it is the lowest
pub loop-turn-preserved : goal.loop-turn-preserved
loop-turn-preserved c =
    let l = c.loop-turn in
    let a = c.args in
    let some = c.in-Some.ensures in (
      omega (arith, c.loop-turn-test.true),
      kept-turn a.closure.now a.files a.boxes l.turn l.left l.rest c.set_at-gone.result c.sub-rest.result c.sub-left.result
          (omega (arith, some.0, some.1)) (low-in l.rest (omega (arith, some.0, some.1))) (rw some.1 at c.set_at-gone.ensures)
          c.sub-rest.ensures c.sub-left.ensures l.invariant.1,
    )

-- no file is left
pub returns-then-is_empty : goal.returns-then-is_empty
returns-then-is_empty c =
    let l = c.loop-turn in
    let a = c.args in
    kept-files a.closure.now a.files a.boxes l.turn l.left l.rest l.invariant.1
    (empty-none l.left (sym c.is_empty.ensures ∙ c.if-is_empty.true))

-- no box is left
pub returns-in_default : goal.returns-in_default
returns-in_default c =
    let l = c.loop-turn in
    let a = c.args in
    kept-boxes a.closure.now a.files a.boxes l.turn l.left l.rest l.invariant.1 (none_in l.rest c.in_default.ensures)

-- nor after the last turn
pub returns : goal.returns
returns c =
    let l = c.loop-turn in
    let a = c.args in
    kept-end a.closure.now a.files a.boxes l.turn l.left l.rest (omega (arith, c.loop-turn-test.false)) l.invariant.1
