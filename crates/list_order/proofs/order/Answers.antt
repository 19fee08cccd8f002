-- `list_order::order` meets its contract: the first places of the list stand, what is left is what they do not reach, and the arrows
-- before `from` are spent. Assumes nothing.
use mathlib.Core.Bool.{Bool}
use native.Mathlib.Omega.{arith}
use Rattle.std.proofs.lemmas.List.{length-take}
use Rattle.list_order.proofs.TurnLaws.{ordering-none, ordering-next, ordering-done, ordering-full}
use Rattle.list_order.proofs.order.Goals as goal

pub loop-count-init : goal.loop-count-init
loop-count-init c =
    let a = c.args in
    rw c.filled-done.ensures
    (ordering-none a.closure.now a.arrows.now a.own.now a.granted.now a.left.now a.out.now 512 c.requires.2)

pub returns-in_default : goal.returns-in_default
returns-in_default c =
    let a = c.args in
    ordering-done a.closure.now a.arrows.now a.own.now a.granted.now a.left.now a.out.now c.requires.3 c.loop-count.invariant
    c.in_default.ensures.next_free

pub loop-count-preserved : goal.loop-count-preserved
loop-count-preserved c =
    let a = c.args in
    ordering-next a.closure.now a.arrows.now a.own.now a.granted.now a.left.now a.out.now c.requires.3 c.loop-count.invariant
    c.in-Some.ensures.next_free (rw c.from.ensures at c.take_arrow.ensures) c.next_free.new.done c.open_from-from.result
    c.next_free.ensures.done
    (omega (arith, length-take {A = Bool})) c.open_from-from.ensures.1

pub returns : goal.returns
returns c =
    let a = c.args in
    ordering-full a.closure.now a.arrows.now a.own.now a.granted.now a.left.now a.out.now c.requires.3 c.loop-count.invariant (omega arith)
