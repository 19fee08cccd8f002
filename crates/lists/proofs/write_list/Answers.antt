-- `lists::write_list` meets its contract: what the list of the mode is found from. Assumes nothing.
use mathlib.Core.Path.{refl, ◌∙◌}
use Rattle.base.proofs.BufferLaws.{zeros-is}
use Rattle.tables.specs.Rows.{user}
use Rattle.tables.specs.Rows.{shown}
use Rattle.mode_sets.proofs.CallerLaws.{small-arrows}
use Rattle.user_kinds.proofs.AtomLaws.{Listed, listed}
use Rattle.lists.proofs.write_list.Goals.{After-atoms_of-count}
use Rattle.lists.proofs.write_list.Goals as goal

-- the atomic users
listing : (c : After-atoms_of-count) →
    let a = c.args in
    Listed a.t.boxes.now a.t.rows.now user c.atoms_of-count.result c.atoms_of-count.new.out
listing c =
    let a = c.args in
    listed a.t.boxes.now a.t.rows.now user c.requires.drawn.rows-sound.few-boxes _ _ _ (c.filled-users.ensures ∙ zeros-is 256)
    (c.atoms_of-count.ensures.value, c.atoms_of-count.ensures.out_after)

pub slice_bounds-users-end : goal.slice_bounds-users-end
slice_bounds-users-end c = (listing (goal.at.slice_bounds-users-end c).After-atoms_of-count).within

pub slice_bounds-list_mode-end : goal.slice_bounds-list_mode-end
slice_bounds-list_mode-end c = (listing (goal.at.slice_bounds-list_mode-end c).After-atoms_of-count).len

pub list_mode-requires-clause-small : goal.list_mode-requires-clause-small
list_mode-requires-clause-small c =
    let a = c.args in
    let drawn = c.requires.drawn in (
      small-arrows a.t.boxes.now a.t.arrows.now drawn.arrows-sound drawn.rows-sound.few-boxes,
      (listing (goal.at.list_mode-requires-clause-small c).After-atoms_of-count).small,
    )

pub returns : goal.returns
returns c =
    let a = c.args in
    rw c.asked_of-asked.ensures.0
    at (c.list_mode.ensures (shown a.t)
    (record {
      drawn = c.requires.drawn;
      arrows-are = refl;
      users-are = (listing (goal.at.returns c).After-atoms_of-count).are;
      files-are = c.asked_of-asked.ensures.1;
    })
    c.asked_of-asked.ensures.2)
