-- `judging::judge_mode` meets its contract: a mode that lacks a sign, or the rows. Assumes nothing.
use mathlib.Core.Path.{sym, ap, ◌∙◌}
use borrow.Author.Rules.{rules}
use Rattle.base.proofs.BufferLaws.{zeros-is}
use Rattle.tables.specs.Refusals.{verdict_of}
use Rattle.user_kinds.proofs.TakenLaws.{Taken, taken}
use Rattle.judging.proofs.SignLaws.{one-sign-clear}
use Rattle.judging.proofs.judge_mode.Goals.{After-take_mode-count}
use Rattle.judging.proofs.judge_mode.Goals as goal

-- the mode's arrows
mode : (c : After-take_mode-count) →
    let a = c.args in
    Taken a.arrows.now a.mode c.take_mode-count.result c.take_mode-count.new.own c.take_mode-count.new.heads
mode c =
    let took = c.take_mode-count.ensures in
    taken c.args.arrows.now c.args.mode c.requires.0 _ _ _ _ (c.filled-own.ensures ∙ zeros-is 512)
    (took.value, (took.own_after, took.mode_sets))

-- the mode lacks a sign
pub returns-then-not-contains : goal.returns-then-not-contains
returns-then-not-contains c pic d e us fs both =
    let no = sym c.contains.ensures ∙ c.if-not-contains.true in
    let mode = c.from.ensures in
    sym (ap verdict_of (one-sign-clear pic c.args.mode (sym both ∙ rw mode at no)))

pub take_mode-count-requires : goal.take_mode-count-requires
take_mode-count-requires c = (c.requires.0, search rules, c.filled-heads.ensures ∙ zeros-is _)

pub judge_rows-requires : goal.judge_rows-requires
judge_rows-requires c = ((mode (goal.at.judge_rows-requires c).After-take_mode-count).sized c.args.closure.now (search rules), c.requires.2)

pub returns : goal.returns
returns c pic d e us fs both = c.judge_rows.ensures pic d ((mode (goal.at.returns c).After-take_mode-count).moded pic e) us fs

pub slice_bounds-own-end : goal.slice_bounds-own-end
slice_bounds-own-end c = (mode (goal.at.slice_bounds-own-end c).After-take_mode-count).within

pub slice_bounds-judge_rows-end : goal.slice_bounds-judge_rows-end
slice_bounds-judge_rows-end c = (mode (goal.at.slice_bounds-judge_rows-end c).After-take_mode-count).len
