-- `lists::stages::mode_count` meets its contract: the count is that of the mode's arrows below k. Assumes nothing.
use mathlib.Core.Path.{◌≡◌, sym, ap, ◌∙◌}
use native.Mathlib.Omega.{arith}
use borrow.Author.Rules.{rules}
use borrow.Author.Tests.{eq-eqb, ne_eqb}
use lib.ListN.{length}
use Rattle.base.proofs.BufferLaws.{select-most}
use Rattle.tables.specs.Rows.{arrow_count}
use Rattle.tables.specs.declared.Arrow.{Arrow}
use Rattle.meaning.specs.Meaning.{has_mode}
use Rattle.meaning.proofs.ModeLaws.{has_mode-is, mode-select}
use Rattle.lists.proofs.CountLaws.{select-none, select-one, select-skip}
use Rattle.lists.proofs.stages.mode_count.Goals.{then-at-mode, else-at-mode}
use Rattle.lists.proofs.stages.mode_count.Goals as goal

pub loop-k-init : goal.loop-k-init
loop-k-init c = let a = c.args in (search rules, select-none (has_mode a.arrows.now a.mode))

pub overflow_add-count : goal.overflow_add-count
overflow_add-count c =
    let a = c.args in
    omega (arith, c.loop-k.invariant, select-most (has_mode a.arrows.now a.mode) c.loop-k.k)

pub loop-k-preserved : goal.loop-k-preserved
loop-k-preserved c =
    let a = c.args in
    let mode-is = ap (λ (x : Arrow). x.mode) c.at.ensures in
    elim c.if-at-mode.branch [
      | then-at-mode w ↦ (
        search rules,
        w.count-is ∙ select-one (has_mode a.arrows.now a.mode) c.loop-k.k c.loop-k.count
            (has_mode-is _ _ _ ∙ eq-eqb _ a.mode (sym mode-is ∙ w.if-at-mode.true)) c.loop-k.invariant.1,
      )
      | else-at-mode w ↦ (
        search rules,
        w.count-is ∙ select-skip (has_mode a.arrows.now a.mode) c.loop-k.k c.loop-k.count
            (has_mode-is _ _ _ ∙ ne_eqb _ a.mode (λ e. w.if-at-mode.false (mode-is ∙ e))) c.loop-k.invariant.1,
      )
    ]

pub returns : goal.returns
returns c =
    let a = c.args in
    let most = c.loop-k.invariant.0 in
    let e : c.loop-k.k ≡ arrow_count a.arrows.now = omega arith in
    (rw e at c.loop-k.invariant.1) ∙ sym (ap length (mode-select a.arrows.now a.mode))
