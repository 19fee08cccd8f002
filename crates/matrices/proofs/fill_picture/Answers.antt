-- `matrices::fill_picture` meets its contract: the local arrays hold the atomic users and files. Assumes nothing.
use mathlib.Core.Path.{refl, ◌∙◌}
use Rattle.base.proofs.BufferLaws.{zeros-is}
use Rattle.tables.specs.Rows.{user, file}
use Rattle.tables.proofs.AtomPlaces.{pair_count-is}
use Rattle.mode_sets.proofs.CallerLaws.{small-arrows}
use Rattle.user_kinds.proofs.AtomLaws.{Listed, listed}
use Rattle.matrices.proofs.fill_picture.Goals.{After-atoms_of-file_count}
use Rattle.matrices.proofs.fill_picture.Goals as goal

-- the users and the files are found
module _ (c : After-atoms_of-file_count) where
  users : Listed c.args.t.boxes.now c.args.t.rows.now user c.atoms_of-user_count.result c.atoms_of-user_count.new.out
  users =
      let made = c.atoms_of-user_count.ensures in
      listed _ _ user c.requires.0.rows-sound.few-boxes _ _ _ (c.filled-users.ensures ∙ zeros-is 256) (made.value, made.out_after)

  files : Listed c.args.t.boxes.now c.args.t.rows.now file c.atoms_of-file_count.result c.atoms_of-file_count.new.out
  files =
      let made = c.atoms_of-file_count.ensures in
      listed _ _ file c.requires.0.rows-sound.few-boxes _ _ _ (c.filled-files.ensures ∙ zeros-is 256) (made.value, made.out_after)

pub fill_matrix-requires : goal.fill_matrix-requires
fill_matrix-requires c =
    let us = users (goal.at.fill_matrix-requires c).After-atoms_of-file_count in
    let fs = files (goal.at.fill_matrix-requires c).After-atoms_of-file_count in
    let pre = c.requires in (
      small-arrows _ _ pre.0.arrows-sound pre.0.rows-sound.few-boxes,
      us.small,
      fs.small,
      rw (us.are, fs.are) (rw pair_count-is at pre.1),
      rw (us.are, fs.are) (rw pair_count-is at pre.2),
    )

pub returns : goal.returns
returns c =
    let found = (goal.at.returns c).After-atoms_of-file_count in
    c.fill_matrix.ensures _ c.requires.0 refl (users found).are (files found).are

pub slice_bounds-users-end : goal.slice_bounds-users-end
slice_bounds-users-end c = (users (goal.at.slice_bounds-users-end c).After-atoms_of-file_count).within

pub slice_bounds-fill_matrix-end : goal.slice_bounds-fill_matrix-end
slice_bounds-fill_matrix-end c = (users (goal.at.slice_bounds-fill_matrix-end c).After-atoms_of-file_count).len

pub slice_bounds-files-end : goal.slice_bounds-files-end
slice_bounds-files-end c = (files (goal.at.slice_bounds-files-end c).After-atoms_of-file_count).within

pub slice_bounds-fill_matrix-end-2 : goal.slice_bounds-fill_matrix-end-2
slice_bounds-fill_matrix-end-2 c = (files (goal.at.slice_bounds-fill_matrix-end-2 c).After-atoms_of-file_count).len
