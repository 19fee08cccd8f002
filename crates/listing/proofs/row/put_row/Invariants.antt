use mathlib.Core.Path.{◌≡◌}
use Prim.Native.Nat.{◌+◌, ◌*◌, ◌<◌, ◌≤◌}
use lib.ListN.{length}
use Rattle.tables.specs.Rows.{Picture}
use Rattle.meaning.specs.Pairs.{files as files_of}
use Rattle.certificates.specs.Steps.{Drawn}
use Rattle.lines.specs.Steps.{Moved}
use Rattle.listing.specs.PairRows.{row_text}
use Rattle.listing.proofs.row.put_row.Given as goal

abbrev pub invariant-loop-file : goal.invariant-loop-file
invariant-loop-file l =
    (l.file-index ≤ length l.files) × (length l.pen.out.now ≡ length l.initial.pen.out.now)
    × (l.pen.out.ghost_name ≡ l.initial.pen.out.ghost_name) × (l.pen.at ≤ l.initial.pen.at + l.file-index * 111)
    × ((pic : Picture) → Drawn pic l.closure → l.arrows ≡ pic.arrows → l.user < length pic.boxes → l.files ≡ files_of pic
    → Moved l.initial.pen (row_text pic l.mode l.user l.files l.file-index) (l.file-index * 111) l.pen)
