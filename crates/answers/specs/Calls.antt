-- The calls, whole: which refusal, which answer, and what the lent places hold at the end. Assumes nothing.
use Rattle.std.specs.Prelude.{not, ◌&&◌, List, ℕ, length, Result, Ok, Err}
use Rattle.std.specs.Prelude.{Option, None as none, Some as some}
use Rattle.base.specs.Search.{or_else, given}
use Rattle.tables.specs.Rows.{Picture, user, file}
use Rattle.tables.specs.Atoms.{atom}
use Rattle.tables.specs.Refusals.{unless_refused}
use Rattle.tables.specs.declared.Refusal.TheVariants.{NotAtomic}
use Rattle.tables.specs.Faults.{room_fault}
use Rattle.tables.specs.declared.Refusal.{Refusal}
use Rattle.containment.specs.Contains.{loop_fault}
use Rattle.scratch.specs.Scratch.{mode_early, picture_fault}
use Rattle.meaning.specs.Pairs.{pairs, matrix_bytes, matrix_numbers, any_unclear}
use Rattle.meaning.specs.declared.Entry.{Entry}

-- 11: the asked user or file isn't an atomic box of that side
unfoldable pub asked_fault : (boxes rows : List ℕ) (u f : ℕ) → Option Refusal
asked_fault boxes rows u f = given (not (atom boxes rows user u && atom boxes rows file f)) (NotAtomic u f)

-- the reply for one entry, by the fault that was found, if any
unfoldable pub reply_of : (fault : Option Refusal) (e : Entry) → Result Entry Refusal
reply_of none e = Ok e
reply_of (some r) e = Err r

-- s is the scratch as it was lent
module _ (pic : Picture) (s : List ℕ) where
  -- one entry: checks 1 to 11
  unfoldable pub entry_fault : (mode u f : ℕ) → Option Refusal
  entry_fault mode u f =
      or_else (mode_early pic s mode) (or_else (loop_fault pic.boxes pic.rows) (asked_fault pic.boxes pic.rows u f))

  -- the judge: checks 1 to 7, 9, 10, 12
  unfoldable pub judge_fault : Option Refusal
  judge_fault = or_else (picture_fault pic s) (any_unclear pic)

  -- the matrix of a mode: checks 1 to 10, where the two buffers need a place for each pair
  unfoldable pub matrix_early : (mode : ℕ) (bytes numbers : List ℕ) → Option Refusal
  matrix_early mode bytes numbers =
      or_else (mode_early pic s mode) (or_else (room_fault 1 (length bytes) (pairs pic)) (room_fault 2 (length numbers) (pairs pic)))

  unfoldable pub matrix_fault : (mode : ℕ) (bytes numbers : List ℕ) → Option Refusal
  matrix_fault mode bytes numbers = or_else (matrix_early mode bytes numbers) (loop_fault pic.boxes pic.rows)

  -- its buffers at the end
  unfoldable pub bytes_after : (mode : ℕ) (bytes numbers : List ℕ) → List ℕ
  bytes_after mode bytes numbers = unless_refused (matrix_fault mode bytes numbers) (matrix_bytes pic mode) bytes

  unfoldable pub numbers_after : (mode : ℕ) (bytes numbers : List ℕ) → List ℕ
  numbers_after mode bytes numbers = unless_refused (matrix_fault mode bytes numbers) (matrix_numbers pic mode) numbers
