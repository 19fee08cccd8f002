-- Document 02, P1, as a call: which refusal, which answer, and what the lent file holds at the end. Assumes nothing.
use Rattle.std.specs.Prelude.{Result, Ok, Err, List, ℕ, length}
use Rattle.std.specs.Prelude.{Option, None as none, Some as some}
use Rattle.base.specs.Search.{or_else}
use Rattle.tables.specs.Refusals.{unless_refused}
use Rattle.tables.specs.Rows.{Picture}
use Rattle.tables.specs.Faults.{table_fault, room_fault}
use Rattle.tables.specs.declared.Refusal.{Refusal}
use Rattle.packing.specs.Packed.{packed}

-- the answer, by the fault that was found, if any: the file's length
unfoldable pub packing_of : (fault : Option Refusal) (len : ℕ) → Result ℕ Refusal
packing_of none len = Ok len
packing_of (some r) len = Err r

module _ (pic : Picture) (file : List ℕ) where
  -- checks 1 to 7 as for a picture, then 9 with buffer 8 for the file
  unfoldable pub pack_fault : Option Refusal
  pack_fault = or_else (table_fault pic) (room_fault 8 (length file) (length (packed pic)))

  unfoldable pub pack_answer : Result ℕ Refusal
  pack_answer = packing_of pack_fault (length (packed pic))

  -- a refusal writes nothing; else bytes beyond the length stay
  unfoldable pub file_after : List ℕ
  file_after = unless_refused pack_fault (packed pic) file
