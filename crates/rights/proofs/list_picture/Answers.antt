-- `rights::list_picture` meets its contract: the atomic boxes are the picture's. Assumes nothing.
use Rattle.tables.specs.Rows.{user, file}
use Rattle.rights.proofs.Prepared.{atoms-there, atoms-length, atoms-part, ready}
use Rattle.rights.proofs.list_picture.Goals as goal

pub slice_bounds-users-end : goal.slice_bounds-users-end
slice_bounds-users-end g c =
    atoms-there user c.requires.rows-sound c.filled-users.ensures (c.atoms_of-user_count.ensures.value, c.atoms_of-user_count.ensures.out_after)

pub slice_bounds-send_picture-end : goal.slice_bounds-send_picture-end
slice_bounds-send_picture-end g c =
    atoms-length user c.requires.rows-sound c.filled-users.ensures (c.atoms_of-user_count.ensures.value, c.atoms_of-user_count.ensures.out_after)

pub slice_bounds-files-end : goal.slice_bounds-files-end
slice_bounds-files-end g c =
    atoms-there file c.requires.rows-sound c.filled-files.ensures (c.atoms_of-file_count.ensures.value, c.atoms_of-file_count.ensures.out_after)

pub slice_bounds-send_picture-end-2 : goal.slice_bounds-send_picture-end-2
slice_bounds-send_picture-end-2 g c =
    atoms-length file c.requires.rows-sound c.filled-files.ensures (c.atoms_of-file_count.ensures.value, c.atoms_of-file_count.ensures.out_after)

pub send_picture-requires : goal.send_picture-requires
send_picture-requires g c =
    let drawn = c.requires in
    ready drawn (atoms-part user drawn.rows-sound c.filled-users.ensures (c.atoms_of-user_count.ensures.value, c.atoms_of-user_count.ensures.out_after))
    (atoms-part file drawn.rows-sound c.filled-files.ensures (c.atoms_of-file_count.ensures.value, c.atoms_of-file_count.ensures.out_after))
