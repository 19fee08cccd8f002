use Rattle.list_order.proofs.TurnLaws.{Ordering}
use Rattle.list_order.proofs.order.Given as goal

abbrev pub invariant-loop-count : goal.invariant-loop-count
invariant-loop-count l =
    Ordering l.closure l.arrows l.own l.granted l.initial.left l.initial.out l.left l.out l.done l.count l.from
