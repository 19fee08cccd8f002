-- `scratch::filling::spread_set` meets its contract: what is set, and what the rest of the set still asks for, make up the whole.
-- Assumes nothing.
use Prim.Native.Nat.{◌+◌, ◌<◌}
use native.Mathlib.Omega.{arith}
use lib.ListN.{length}
use Rattle.boxsets.specs.Sets.{is_in}
use Rattle.boxsets.specs.Members.{to_come}
use Rattle.boxsets.proofs.TakesLaws.{places-none, places-next, places-end}
use Rattle.scratch.proofs.filling.spread_set.Goals.{In-Some}
use Rattle.scratch.proofs.filling.spread_set.Goals as goal

pub loop-b-init : goal.loop-b-init
loop-b-init c = let a = c.args in
    places-none a.at 1 (is_in a.x) (to_come c.into_iter-b-iterator.result) a.scratch.now c.into_iter-b-iterator.ensures.into_iter_gives

-- the byte of the number is there
there : (c : In-Some) → c.args.at + c.in-Some.b < length c.loop-b.scratch
there c =
    let room = c.requires c.in-Some.b (c.loop-b.invariant.within c.in-Some.b c.in-Some.ensures.steps.there) in
    omega (arith, room, c.loop-b.invariant.len)

pub loop-b-preserved : goal.loop-b-preserved
loop-b-preserved c = places-next c.args.at 1 c.in-Some.ensures.steps (there c) c.loop-b.invariant

pub overflow_add-scratch : goal.overflow_add-scratch
overflow_add-scratch c = omega (arith, there c)

pub bounds-scratch-at : goal.bounds-scratch-at
bounds-scratch-at c = there c

pub returns : goal.returns
returns c = let inv = c.loop-b.invariant in record {
  len = inv.len;
  from = places-end c.args.at 1 (λ j. (c.in-None.ensures.steps j).0) inv;
  before = inv.before;
}
