-- The call for the list of a mode, whole: which refusal, which answer, and what the lent places hold at the end. Assumes nothing.
use Rattle.std.specs.Prelude.{List, ℕ, length, Result}
use Rattle.std.specs.Prelude.{Option}
use Rattle.tables.specs.Rows.{Picture}
use Rattle.base.specs.Search.{or_else}
use Rattle.base.specs.Buffers.{zeros}
use Rattle.tables.specs.Refusals.{unless_refused}
use Rattle.tables.specs.Faults.{room_fault}
use Rattle.tables.specs.declared.Refusal.{Refusal}
use Rattle.containment.specs.Contains.{loop_fault}
use Rattle.meaning.specs.Pairs.{pairs, unclear_fault}
use Rattle.scratch.specs.Scratch.{mode_early}
use Rattle.list_meaning.specs.Lists.{list_room}
use Rattle.list_meaning.specs.Greedy.{order_fault, listed_of, places_of}

module _ (pic : Picture) (m : ℕ) where
  -- checks 1 to 9, by the scratch, the list and the work bytes as they were lent
  unfoldable pub list_early : (s out work : List ℕ) → Option Refusal
  list_early s out work =
      or_else (mode_early pic s m) (or_else (room_fault 3 (length out) (list_room pic m)) (room_fault 4 (length work) (pairs pic)))

  -- checks 1 to 12, of which 12 is about this mode: nothing is written to the list and the work bytes before all have passed
  unfoldable pub list_before : (s out work : List ℕ) → Option Refusal
  list_before s out work = or_else (list_early s out work) (or_else (loop_fault pic.boxes pic.rows) (unclear_fault pic m))

  -- the answer, and the list places and work bytes at the end, by the fault of checks 1 to 12, if any: that leaves both as they were
  unfoldable pub list_answer : (fault : Option Refusal) → Result ℕ Refusal
  list_answer fault = listed_of pic m (or_else fault (order_fault pic m))

  unfoldable pub list_after : (fault : Option Refusal) (out : List ℕ) → List ℕ
  list_after fault out = unless_refused fault (places_of pic m (order_fault pic m)) out

  unfoldable pub work_after : (fault : Option Refusal) (work : List ℕ) → List ℕ
  work_after fault work = unless_refused fault (zeros (pairs pic)) work
