-- `boxsets::Set::of` meets its contract: before place i the set has the numbers there. Assumes nothing.
use mathlib.Core.Path.{◌≡◌}
use native.Mathlib.Omega.{arith}
use lib.ListN.{length}
use Rattle.boxsets.proofs.AmongLaws.{taken_none, taken_more, taken-all}
use Rattle.boxsets.proofs.Set.of.Goals as goal

pub loop-k-init : goal.loop-k-init
loop-k-init c = taken_none c.args.numbers.now c.empty-x.result c.empty-x.ensures

pub loop-k-preserved : goal.loop-k-preserved
loop-k-preserved c =
    taken_more c.args.numbers.now c.loop-k.k-index c.from.result c.loop-k.x c.single.result c.bitor-x.result
    c.from.ensures c.single.ensures c.bitor-x.ensures c.loop-k.invariant

pub returns : goal.returns
returns c =
    let xs = c.args.numbers.now in
    let e : c.loop-k.k-index ≡ length xs = omega arith in
    taken-all xs c.loop-k.x (rw e at c.loop-k.invariant)
