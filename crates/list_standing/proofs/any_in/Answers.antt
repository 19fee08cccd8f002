-- `list_standing::any_in` meets its contract: the numbers not looked at yet say what all of the word do. Assumes nothing.
use mathlib.Core.Path.{◌≡◌, refl}
use Prim.Native.Nat.{◌+◌, ◌*◌, ◌<◌}
use native.Mathlib.Omega.{arith}
use Rattle.base.proofs.SearchLaws.{lowest-some}
use Rattle.boxsets.specs.Words.{bit_at}
use Rattle.list_standing.proofs.AnyInLaws.{rests-end, rests-found, rests-more}
use Rattle.list_standing.proofs.any_in.Goals.{After-low_bit}
use Rattle.list_standing.proofs.any_in.Given.{Over}
use Rattle.list_standing.proofs.any_in.Goals as goal

small : (g : Over) → (c : After-low_bit g) → c.low_bit.result < 64
small g c = (lowest-some (bit_at c.loop-rest.rest) 64 c.low_bit.result c.low_bit.ensures).0

pub overflow_add-k : goal.overflow_add-k
overflow_add-k g c = omega (arith, small g c, c.requires.below)

pub test-requires : goal.test-requires
test-requires g c =
    c.requires.callable (64 * c.args.q + c.low_bit.result)
    (omega (arith, small g (goal.at.test-requires g c).After-low_bit, c.requires.below))

pub returns-then-test : goal.returns-then-test
returns-then-test g c =
    let a = c.args in
    rests-found (λ k b. g.F.Fn.post a.test.now (k, tt) b) a.q a.word c.loop-rest.rest c.drop_bit-rest.result c.low_bit.result
    c.low_bit.ensures (λ b. c.drop_bit-rest.ensures.by_index c.low_bit.result b c.low_bit.ensures) c.requires.below
    _ c.if-test.ensures c.loop-rest.invariant refl

pub loop-rest-preserved : goal.loop-rest-preserved
loop-rest-preserved g c =
    let a = c.args in
    rests-more (λ k b. g.F.Fn.post a.test.now (k, tt) b) a.q a.word c.loop-rest.rest c.drop_bit-rest.result c.low_bit.result
    c.low_bit.ensures (λ b. c.drop_bit-rest.ensures.by_index c.low_bit.result b c.low_bit.ensures) c.requires.below
    _ c.if-test.ensures c.loop-rest.invariant refl

pub returns : goal.returns
returns g c =
    let a = c.args in
    let e : c.loop-rest.rest ≡ 0 = omega arith in
    rests-end (λ k b. g.F.Fn.post a.test.now (k, tt) b) a.q a.word (rw e at c.loop-rest.invariant)
