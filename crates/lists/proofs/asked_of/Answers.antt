-- `lists::asked_of` meets its contract: the atomic files as a set, and how many pairs they make. Assumes nothing.
use mathlib.Core.Path.{◌≡◌, refl, sym, ap₂, ◌∙◌}
use Prim.Native.Nat.{◌*◌}
use native.Mathlib.Omega.{arith}
use lib.ListN.{length}
use Rattle.base.proofs.BufferLaws.{zeros-is}
use Rattle.tables.specs.Rows.{user, file}
use Rattle.tables.specs.Atoms.{atoms}
use Rattle.tables.proofs.AtomPlaces.{pair_count-is, few-pairs}
use Rattle.user_kinds.proofs.AtomLaws.{Listed, listed, among-atoms}
use Rattle.lists.proofs.asked_of.Goals.{After-atoms_of-file_count, After-of-files}
use Rattle.lists.proofs.asked_of.Goals as goal

-- the atomic files
listing : (c : After-atoms_of-file_count) →
    let a = c.args in
    Listed a.boxes.now a.rows.now file c.atoms_of-file_count.result c.atoms_of-file_count.new.out
listing c =
    let a = c.args in
    listed a.boxes.now a.rows.now file c.requires.0.few-boxes _ _ _ (c.filled-numbers.ensures ∙ zeros-is 256)
    (c.atoms_of-file_count.ensures.value, c.atoms_of-file_count.ensures.out_after)

-- how many pairs there are
count-is : (c : After-of-files) →
    let a = c.args in
    a.count * c.atoms_of-file_count.result ≡ length (atoms a.boxes.now a.rows.now user) * length (atoms a.boxes.now a.rows.now file)
count-is c =
    ap₂ ◌*◌ c.requires.1 c.atoms_of-file_count.ensures.value

pub slice_bounds-numbers-end : goal.slice_bounds-numbers-end
slice_bounds-numbers-end c = (listing (goal.at.slice_bounds-numbers-end c).After-atoms_of-file_count).within

pub slice_bounds-of-end : goal.slice_bounds-of-end
slice_bounds-of-end c = (listing (goal.at.slice_bounds-of-end c).After-atoms_of-file_count).len

pub of-files-requires : goal.of-files-requires
of-files-requires c = (listing (goal.at.of-files-requires c).After-atoms_of-file_count).small

pub overflow_mul-result : goal.overflow_mul-result
overflow_mul-result c =
    let a = c.args in
    let few = few-pairs a.boxes.now a.rows.now c.requires.0.few-boxes in
    omega (arith, count-is c, few)

pub returns : goal.returns
returns c =
    let a = c.args in (
      refl,
      λ b. c.of-files.ensures b ∙ rw (listing (goal.at.returns c).After-atoms_of-file_count).are (among-atoms a.boxes.now a.rows.now file b),
      count-is c ∙ sym (pair_count-is a.boxes.now a.rows.now),
    )
