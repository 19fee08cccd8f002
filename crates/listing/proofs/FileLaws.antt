-- The listing of what was read, by its parts. Assumes nothing.
use mathlib.Core.Path.{◌≡◌, refl, sym, ◌∙◌}
use mathlib.Core.List.{List, ◌++◌}
use Rattle.std.specs.Prelude.{None as none}
use Prim.Native.Nat.{ℕ, ◌*◌}
use lib.ListN.{length, take}
use Rattle.base.specs.Buffers.{zeros}
use Rattle.base.proofs.BufferLaws.{zeros-length}
use Rattle.base.proofs.PartLaws.{part-is}
use Rattle.tables.specs.Rows.{Picture, picture, row_count, arrow_count}
use Rattle.tables.specs.Refusals.{verdict_of, numbers_of}
use Rattle.tables.specs.declared.Refusal.{Refusal}
use Rattle.tables.proofs.Verdicts.{passed, refused}
use Rattle.scratch.specs.Scratch.{picture_fault}
use Rattle.scratch.proofs.PictureLaws.{picture-room}
use Rattle.meaning.specs.Cases.{picture-B}
use Rattle.meaning.specs.Pairs.{any_unclear}
use Rattle.blocks.specs.Blocks.{joined}
use Rattle.blocks.specs.Files.{picture_of}
use Rattle.blocks.specs.Reads.{read_fault}
use Rattle.blocks.specs.Steps.{ReadDone}
use Rattle.blocks.specs.declared.Counts.{Counts as Three}
use Rattle.std.specs.Prelude.{Result, Ok, Err}
use Rattle.blocks.proofs.Order.{read-lengths}
use Rattle.blocks.proofs.Rooms.{read-stopped, read-tables}
use Rattle.lines.specs.Text.{text}
use Rattle.lines.specs.Lines.{line_text}
use Rattle.lines.specs.Steps.{Holds}
use Rattle.listing.specs.Listing.{in_numbers, counts_line, mode_text, picture_listing}
use Rattle.listing.specs.Files.{refused_or, listing_of, file_listing}
use Rattle.listing.specs.Cases.{case-B, passes-B}
use Rattle.lines.specs.declared.Line.TheVariants.{Counts, Last, Stopped}

-- the part of a buffer that holds a text
pub held : {text old new : List ℕ} {n : ℕ} → Holds text old new n → take n new ≡ text
held {text} {old} {new} {n} h = part-is text old n new (h.bytes-are, h.written-are)

-- ---- a picture: the first line, the pair lines and the last line

pub listing-parts : (pic : Picture)
    → picture_listing pic
    ≡ line_text (counts_line pic) ++ (joined (mode_text pic) 8 ++ line_text (Last (in_numbers (verdict_of (any_unclear pic)))))
unfolding picture_listing
listing-parts pic = refl

-- the first line, by the tables
pub counts-are : (boxes rows arrows : List ℕ) → counts_line (picture boxes rows arrows) ≡ Counts (length boxes) (row_count rows) (arrow_count arrows)
unfolding counts_line
counts-are boxes rows arrows = refl

-- whether it is refused, with any scratch of so many bytes
module _ (boxes rows arrows s : List ℕ) (len : 65536 ≡ length s) {v : Result Unit Refusal}
    (told : v ≡ verdict_of (picture_fault (picture boxes rows arrows) s)) where
  fault-room : picture_fault (picture boxes rows arrows) (zeros 65536) ≡ picture_fault (picture boxes rows arrows) s
  fault-room = picture-room boxes rows arrows (zeros 65536) s (zeros-length 65536 ∙ len)

  pub picture-refused : (r : Refusal) → v ≡ Err r
      → listing_of (picture boxes rows arrows) (zeros 65536) ≡ line_text (Stopped (numbers_of r))
  unfolding listing_of refused_or
  picture-refused r e = rw (fault-room ∙ refused _ r (sym told ∙ e))

  pub picture-good : v ≡ Ok tt → listing_of (picture boxes rows arrows) (zeros 65536) ≡ picture_listing (picture boxes rows arrows)
  unfolding listing_of refused_or
  picture-good e = rw (fault-room ∙ passed _ (sym told ∙ e))

-- ---- a file

module _ (file boxes rows arrows boxes_end rows_end arrows_end : List ℕ)
    (nb : 256 ≡ length boxes) (nr : 2048 ≡ length rows) (na : 2048 ≡ length arrows) where
  fault-is : read_fault file (zeros 256) (zeros 2048) (zeros 2048) ≡ read_fault file boxes rows arrows
  fault-is =
      read-lengths file (zeros 256) (zeros 2048) (zeros 2048) boxes rows arrows (zeros-length 256 ∙ nb) (zeros-length 2048 ∙ nr)
      (zeros-length 2048 ∙ na)

  pub read-refused : {r : Refusal} → ReadDone file boxes rows arrows boxes_end rows_end arrows_end (Err r)
      → file_listing file ≡ line_text (Stopped (numbers_of r))
  unfolding file_listing refused_or
  read-refused d = rw (fault-is ∙ read-stopped file boxes rows arrows boxes_end rows_end arrows_end d)

  pub read-good : {c : Three} → ReadDone file boxes rows arrows boxes_end rows_end arrows_end (Ok c)
      → file_listing file
      ≡ listing_of (picture (take c.boxes boxes_end) (take (2 * c.containments) rows_end) (take (4 * c.arrows) arrows_end)) (zeros 65536)
  unfolding file_listing refused_or
  read-good d =
      let read = read-tables file boxes rows arrows boxes_end rows_end arrows_end d in
      rw (fault-is ∙ read.no-fault, read.boxes-read, read.rows-read, read.arrows-read)

-- the listing of a file with the picture of case B is the document's text
pub document-listing : (file : List ℕ) → read_fault file (zeros 256) (zeros 2048) (zeros 2048) ≡ none → picture_of file ≡ picture-B
    → file_listing file ≡ text "boxes 4 containments 2 arrows 2\n0 0 3 pos 0\n0 1 3 neg 1\naccepted\n"
unfolding file_listing listing_of refused_or
document-listing file read is = rw (read, is, passes-B) case-B
