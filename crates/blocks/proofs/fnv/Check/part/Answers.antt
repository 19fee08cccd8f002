-- The loop's invariant: the fold of what is left, from the state now, is the fold of all from the first state. Assumes nothing.
use Rattle.std.proofs.Common.{◌≡◌, length, add-one, arith, drop-cons}
use lib.Seq.{drop-length}
use Rattle.blocks.specs.Fnv.{fnv_fold}
use Rattle.blocks.proofs.fnv.Check.part.Goals as goal

pub loop-b-preserved : goal.loop-b-preserved
unfolding fnv_fold
loop-b-preserved c = let l = c.loop-b in
    rw (c.byte-c.ensures, add-one) (rw (drop-cons c.args.s.now l.b-index 0 (omega arith)) at l.invariant)

pub returns : goal.returns
unfolding fnv_fold
returns c = let l = c.loop-b in
    let s = c.args.s.now in
    let e : l.b-index ≡ length s = omega arith in
    rw (e, drop-length) at l.invariant
