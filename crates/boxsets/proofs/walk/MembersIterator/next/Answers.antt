-- `next` meets its contract: words that are 0 are passed over, and the first other one loses its lowest bit. Assumes nothing.
use mathlib.Core.Path.{refl, sym, ◌∙◌}
use Prim.Native.Nat.{◌<◌}
use native.Mathlib.Omega.{arith}
use Rattle.boxsets.specs.Members.{to_come}
use Rattle.boxsets.proofs.WalkLaws.{empty-none, some-low}
use Rattle.boxsets.proofs.TakesLaws.{takes-same, takes-less}
use Rattle.boxsets.proofs.ReachLaws.{reaches-none, reach-bit, takes-bit, reach-rest, reaches-moved, reach-moved, reach-low}
use Rattle.boxsets.proofs.walk.MembersIterator.next.Goals.{Else-is_empty}
use Rattle.boxsets.proofs.walk.MembersIterator.next.Goals as goal

pub loop-rest-init : goal.loop-rest-init
unfolding to_come
loop-rest-init c = record { same = λ k. refl; reach = c.args.self.now.in_reach }

pub returns-then-is_empty-clause-steps : goal.returns-then-is_empty-clause-steps
returns-then-is_empty-clause-steps c j =
    let none = empty-none c.loop-rest.rest (sym c.is_empty.ensures ∙ c.if-is_empty.true) in
    let e = sym (c.loop-rest.invariant.same j) ∙ reaches-none c.loop-rest.from c.loop-rest.rest none j in
    (e, e)

-- a number is left
more : (c : Else-is_empty) → c.loop-rest.from < 256
more c =
    let l = some-low c.loop-rest.rest (sym c.is_empty.ensures ∙ c.if-is_empty.false) in
    reach-low c.loop-rest.from c.loop-rest.rest c.loop-rest.invariant.reach l.0

pub overflow_add-from : goal.overflow_add-from
overflow_add-from c = omega (arith, more c)

pub loop-rest-smaller : goal.loop-rest-smaller
loop-rest-smaller c = omega (arith, more c)

pub loop-rest-preserved : goal.loop-rest-preserved
loop-rest-preserved c =
    let from = c.loop-rest.from in
    let x = c.loop-rest.rest in
    record {
      same = λ k. reaches-moved from x c.loop-rest-test.true k ∙ c.loop-rest.invariant.same k;
      reach = reach-moved from x c.loop-rest.invariant.reach;
    }

pub overflow_add-k : goal.overflow_add-k
overflow_add-k c =
    omega (arith, reach-bit c.loop-rest.from c.low_bit.result c.loop-rest.rest c.low_bit.ensures c.loop-rest.invariant.reach)

pub invariant_of-self : goal.invariant_of-self
invariant_of-self c = record {
  in_reach = reach-rest c.loop-rest.from c.low_bit.result c.drop_bit.result c.loop-rest.rest _ (omega arith) (omega arith) c.low_bit.ensures
      c.drop_bit.ensures.by_index refl c.loop-rest.invariant.reach;
}

pub returns-clause-steps : goal.returns-clause-steps
unfolding to_come
returns-clause-steps c =
    takes-same c.loop-rest.invariant.same
    (takes-bit c.loop-rest.from c.low_bit.result c.drop_bit.result c.loop-rest.rest _ (omega arith) (omega arith) c.low_bit.ensures
    c.drop_bit.ensures.by_index refl c.loop-rest.invariant.reach)

pub returns-clause-goes : goal.returns-clause-goes
returns-clause-goes c =
    let less = takes-less (returns-clause-steps c) in
    record { on = λ f. (tt, tt, less); keeps = tt; rests = λ f. tt }
