-- `judging::judge_picture` meets its contract: the local array holds the atomic users. Assumes nothing.
use mathlib.Core.Path.{refl, ◌∙◌}
use Rattle.base.proofs.BufferLaws.{zeros-is}
use Rattle.tables.specs.Rows.{picture, user}
use Rattle.mode_sets.proofs.CallerLaws.{small-arrows}
use Rattle.user_kinds.proofs.AtomLaws.{Listed, listed}
use Rattle.judging.proofs.judge_picture.Goals.{After-atoms_of-count}
use Rattle.judging.proofs.judge_picture.Goals as goal

found : (c : After-atoms_of-count) →
    let a = c.args in
    Listed a.t.boxes.now a.t.rows.now user c.atoms_of-count.result c.atoms_of-count.new.out
found c =
    let a = c.args in
    let made = c.atoms_of-count.ensures in
    listed a.t.boxes.now a.t.rows.now user c.requires.rows-sound.few-boxes _ _ _ (c.filled-users.ensures ∙ zeros-is 256)
    (made.value, made.out_after)

pub judge_modes-requires : goal.judge_modes-requires
judge_modes-requires c =
    let a = c.args in
    let drawn = c.requires in (
      small-arrows a.t.boxes.now a.t.arrows.now drawn.arrows-sound drawn.rows-sound.few-boxes,
      λ k l. (drawn.arrows-sound.mode-most k l, drawn.arrows-sound.sign-most k l),
      (found (goal.at.judge_modes-requires c).After-atoms_of-count).small,
    )

pub returns : goal.returns
returns c =
    let a = c.args in
    c.judge_modes.ensures (picture a.t.boxes.now a.t.rows.now a.t.arrows.now) c.requires refl (found (goal.at.returns c).After-atoms_of-count).are
    c.atom_set.ensures

pub slice_bounds-users-end : goal.slice_bounds-users-end
slice_bounds-users-end c = (found (goal.at.slice_bounds-users-end c).After-atoms_of-count).within

pub slice_bounds-judge_modes-end : goal.slice_bounds-judge_modes-end
slice_bounds-judge_modes-end c = (found (goal.at.slice_bounds-judge_modes-end c).After-atoms_of-count).len
