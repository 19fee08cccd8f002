-- The headings of the matrix, as a call: which refusal, which answer, and what the two lent buffers hold at the end. Assumes nothing.
use Rattle.std.specs.Prelude.{List, [], ℕ, length, Result, Ok, Err}
use Rattle.std.specs.Prelude.{Option, None as none, Some as some}
use Rattle.base.specs.Search.{or_else}
use Rattle.tables.specs.Rows.{picture, user, file}
use Rattle.tables.specs.Atoms.{atoms}
use Rattle.tables.specs.Refusals.{unless_refused}
use Rattle.tables.specs.Faults.{table_fault, room_fault}
use Rattle.tables.specs.declared.Refusal.{Refusal}

module _ (boxes rows : List ℕ) where
  -- the answer, by the fault that was found, if any: how many atomic users and atomic files there are
  unfoldable pub headings_of : (fault : Option Refusal) → Result (ℕ × ℕ) Refusal
  headings_of none = Ok (length (atoms boxes rows user), length (atoms boxes rows file))
  headings_of (some r) = Err r

  -- the two buffers as they were lent
  module _ (users files : List ℕ) where
    -- checks 1 to 7 as on a picture without arrows, then 9: buffer 11 needs a place for each atomic user, buffer 12 one for each
    -- atomic file
    unfoldable pub heading_fault : Option Refusal
    heading_fault =
        or_else (table_fault (picture boxes rows []))
        (or_else (room_fault 11 (length users) (length (atoms boxes rows user)))
        (room_fault 12 (length files) (length (atoms boxes rows file))))

    -- the buffers at the end: the atomic users, and the atomic files, by rising number
    unfoldable pub users_after : List ℕ
    users_after = unless_refused heading_fault (atoms boxes rows user) users

    unfoldable pub files_after : List ℕ
    files_after = unless_refused heading_fault (atoms boxes rows file) files
