-- `list_sets::sort_mode` meets its contract: the mode's arrows, and the rows. Assumes nothing.
use mathlib.Core.Path.{◌≡◌, ◌∙◌}
use Rattle.std.specs.Prelude.{Err}
use borrow.Author.Rules.{rules}
use Rattle.base.proofs.BufferLaws.{zeros-is}
use Rattle.user_kinds.proofs.TakenLaws.{Taken, taken_in}
use Rattle.list_sets.proofs.sort_mode.Goals.{After-take_mode-count}
use Rattle.list_sets.proofs.sort_mode.Goals as goal

-- the mode's arrows
mode : (c : After-take_mode-count) →
    Taken c.args.arrows.now c.args.asked.mode c.take_mode-count.result c.take_mode-count.new.own c.take_mode-count.new.heads
mode c =
    let took = c.take_mode-count.ensures in
    taken_in c.args.arrows.now c.args.asked.mode c.requires.0 _ _ _ _ c.requires.2 (took.value, (took.own_after, took.mode_sets))

pub take_mode-count-requires : goal.take_mode-count-requires
take_mode-count-requires c = (c.requires.0, c.requires.2, c.filled-heads.ensures ∙ zeros-is 2056)

pub slice_bounds-sort_rows-end : goal.slice_bounds-sort_rows-end
slice_bounds-sort_rows-end c = (mode (goal.at.slice_bounds-sort_rows-end c).After-take_mode-count).within

pub slice_bounds-sort_rows-end-2 : goal.slice_bounds-sort_rows-end-2
slice_bounds-sort_rows-end-2 c = (mode (goal.at.slice_bounds-sort_rows-end-2 c).After-take_mode-count).len

pub sort_rows-unclear-requires : goal.sort_rows-unclear-requires
sort_rows-unclear-requires c =
    ((mode (goal.at.sort_rows-unclear-requires c).After-take_mode-count).sized c.args.closure.now (search rules), c.requires.1, c.requires.3)

pub returns-clause-check12 : goal.returns-clause-check12
returns-clause-check12 c pic r =
    c.sort_rows-unclear.ensures pic r ((mode (goal.at.returns-clause-check12 c).After-take_mode-count).moded pic r.arrows-are)
