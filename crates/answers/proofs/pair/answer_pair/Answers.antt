-- `answers::pair::answer_pair` meets its contract: the local arrays hold the mode's arrows, and the row has one file. Assumes nothing.
use mathlib.Core.Path.{sym, subst, ◌∙◌}
use borrow.Author.Rules.{rules}
use lib.Dec.{T, eqb_refl}
use Rattle.base.proofs.BufferLaws.{zeros-is}
use Rattle.boxsets.specs.Sets.{is_in}
use Rattle.user_rows.proofs.BlankLaws.{blank-is}
use Rattle.user_kinds.proofs.TakenLaws.{Taken, taken}
use Rattle.answers.proofs.pair.answer_pair.Goals.{After-take_mode-count}
use Rattle.answers.proofs.pair.answer_pair.Goals as goal

-- the mode's arrows
mode : (c : After-take_mode-count) →
    Taken c.args.arrows.now c.args.mode c.take_mode-count.result c.take_mode-count.new.own c.take_mode-count.new.heads
mode c =
    let took = c.take_mode-count.ensures in
    taken _ _ c.requires.0 _ _ _ _ (c.filled-own.ensures ∙ zeros-is 512) (took.value, (took.own_after, took.mode_sets))

pub take_mode-count-requires : goal.take_mode-count-requires
take_mode-count-requires c = (c.requires.0, search rules, c.filled-heads.ensures ∙ zeros-is _)

pub answer_row-row-requires : goal.answer_row-row-requires
answer_row-row-requires c = (
  (mode (goal.at.answer_row-row-requires c).After-take_mode-count).sized c.args.closure.now (search rules),
  c.requires.1,
  c.filled-found.ensures ∙ blank-is,
)

pub returns : goal.returns
returns c pic d e lu lf =
    let a = c.args in
    let there : T (is_in c.single-asked.result a.f) = subst T (sym (c.single-asked.ensures a.f)) (eqb_refl a.f) in
    let row = c.answer_row-row.ensures pic a.mode d ((mode (goal.at.returns c).After-take_mode-count).moded pic e) lu in
    c.entry_of.ensures pic (is_in c.single-asked.result) d e lu lf there row.0 (row.1 a.f there)

pub slice_bounds-own-end : goal.slice_bounds-own-end
slice_bounds-own-end c = (mode (goal.at.slice_bounds-own-end c).After-take_mode-count).within

pub slice_bounds-own-end-2 : goal.slice_bounds-own-end-2
slice_bounds-own-end-2 c = (mode (goal.at.slice_bounds-own-end-2 c).After-take_mode-count).len
