-- `containment::check_loops` meets its contract: no box before b is in its own set. Assumes nothing.
use mathlib.Core.Path.{◌≡◌, sym, ap, ◌∙◌}
use native.Mathlib.Omega.{arith}
use borrow.Author.Rules.{rules}
use Rattle.base.proofs.SearchLaws.{search-none, search-more, search-here}
use Rattle.tables.specs.Refusals.{verdict_of}
use Rattle.tables.specs.declared.Refusal.TheVariants.{InItself}
use Rattle.containment.specs.Steps.{own_fault}
use Rattle.containment.proofs.check_loops.Invariants.{own}
use Rattle.containment.proofs.check_loops.Goals as goal

pub loop-b-init : goal.loop-b-init
loop-b-init c = (search-none (own c.args.closure.now) InItself, search rules)

pub returns-then-has : goal.returns-then-has
unfolding own_fault
returns-then-has c =
    let a = c.args in
    sym (ap verdict_of (search-here (own a.closure.now) InItself a.n c.loop-b.b c.loop-b.invariant.0
    (sym c.has.ensures ∙ c.if-has.true) (omega arith)))

pub loop-b-preserved : goal.loop-b-preserved
loop-b-preserved c =
    let closure = c.args.closure.now in
    (search-more (own closure) InItself c.loop-b.b c.loop-b.invariant.0 (sym c.has.ensures ∙ c.if-has.false), search rules)

pub returns : goal.returns
unfolding own_fault
returns c =
    let e : c.loop-b.b ≡ c.args.n = omega arith in
    sym (ap verdict_of (rw e at c.loop-b.invariant.0))
