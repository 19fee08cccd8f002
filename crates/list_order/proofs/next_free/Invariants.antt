use Rattle.list_order.specs.Steps.{Done, NoneFree}
use Rattle.list_order.proofs.next_free.Given as goal

abbrev pub invariant-loop-i : goal.invariant-loop-i
invariant-loop-i l = record {
  none_free : NoneFree l.closure l.arrows l.own l.left l.granted l.i;
  marked : Done l.closure l.arrows l.own l.left l.granted l.done;
}
