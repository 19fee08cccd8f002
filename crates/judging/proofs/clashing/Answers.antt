-- `judging::clashing` meets its contract: the modes of the arrows before k are in the set of their sign. Assumes nothing.
use mathlib.Core.Path.{◌≡◌, ap, ◌∙◌}
use borrow.Author.Rules.{rules}
use Rattle.base.proofs.BufferLaws.{zeros-is}
use Rattle.tables.specs.Rows.{arrow_count}
use Rattle.tables.specs.declared.Arrow.{Arrow}
use Rattle.judging.proofs.SignLaws.{signs-none, signs-more, clashing-is}
use Rattle.judging.proofs.clashing.Goals as goal

pub loop-k-init : goal.loop-k-init
loop-k-init c = rw (c.filled-signs.ensures ∙ zeros-is 8) (signs-none c.args.arrows.now)

pub loop-k-preserved : goal.loop-k-preserved
loop-k-preserved c =
    let sign = c.from.ensures ∙ ap (λ (a : Arrow). a.sign) c.at-a.ensures in
    let mode = c.from-in-loop-k.ensures ∙ ap (λ (a : Arrow). a.mode) c.at-a.ensures in
    signs-more c.args.arrows.now c.loop-k.k c.loop-k.signs c.add.new.t (rw (sign, mode) at c.add.ensures) c.loop-k.invariant

pub returns : goal.returns
returns c =
    let l = c.loop-k in
    let arrows = c.args.arrows.now in
    let e : l.k ≡ arrow_count arrows = search rules in
    clashing-is arrows l.signs (rw e at l.invariant) c.set_at.result c.set_at-2.result c.bitand.result c.set_at.ensures
    c.set_at-2.ensures c.bitand.ensures
