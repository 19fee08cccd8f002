-- `judging::atom_sets::atom_set` meets its contract: the numbers of the written part. Assumes nothing.
use mathlib.Core.Path.{◌∙◌}
use Rattle.base.proofs.BufferLaws.{zeros-is}
use Rattle.user_kinds.proofs.AtomLaws.{Listed, listed, among-atoms}
use Rattle.judging.proofs.atom_sets.atom_set.Goals.{After-atoms_of-count}
use Rattle.judging.proofs.atom_sets.atom_set.Goals as goal

found : (c : After-atoms_of-count) →
    let a = c.args in
    Listed a.boxes.now a.rows.now a.side c.atoms_of-count.result c.atoms_of-count.new.out
found c =
    let a = c.args in
    let made = c.atoms_of-count.ensures in
    listed a.boxes.now a.rows.now a.side c.requires.few-boxes _ _ _ (c.filled-atoms.ensures ∙ zeros-is 256) (made.value, made.out_after)

pub returns : goal.returns
returns c b =
    let a = c.args in
    c.of.ensures b ∙ rw (found (goal.at.returns c).After-atoms_of-count).are (among-atoms a.boxes.now a.rows.now a.side b)

pub slice_bounds-atoms-end : goal.slice_bounds-atoms-end
slice_bounds-atoms-end c = (found (goal.at.slice_bounds-atoms-end c).After-atoms_of-count).within

pub slice_bounds-of-end : goal.slice_bounds-of-end
slice_bounds-of-end c = (found (goal.at.slice_bounds-of-end c).After-atoms_of-count).len

pub of-requires : goal.of-requires
of-requires c = (found (goal.at.of-requires c).After-atoms_of-count).small
