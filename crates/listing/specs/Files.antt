-- The listing of what the program has read (document 01, "The program's listing"). Assumes nothing.
use Rattle.std.specs.Prelude.{List, ℕ}
use Rattle.std.specs.Prelude.{Option, None as none, Some as some}
use Rattle.base.specs.Buffers.{zeros}
use Rattle.tables.specs.Rows.{Picture}
use Rattle.tables.specs.declared.Refusal.{Refusal}
use Rattle.tables.specs.Refusals.{numbers_of}
use Rattle.scratch.specs.Scratch.{picture_fault}
use Rattle.blocks.specs.Files.{picture_of}
use Rattle.blocks.specs.Reads.{read_fault}
use Rattle.lines.specs.Lines.{line_text}
use Rattle.listing.specs.Listing.{picture_listing}
use Rattle.lines.specs.declared.Line.TheVariants.{Stopped}

-- a refused file or picture gives one line only
unfoldable pub refused_or : (fault : Option Refusal) (whole : List ℕ) → List ℕ
refused_or none listing = listing
refused_or (some r) listing = line_text (Stopped (numbers_of r))

-- of a picture, which is refused by any number but 12
unfoldable pub listing_of : (pic : Picture) (scratch : List ℕ) → List ℕ
listing_of pic scratch = refused_or (picture_fault pic scratch) (picture_listing pic)

-- of a file, which is read into tables of 256, 2,048 and 2,048 places, and its picture, with 65,536 bytes of scratch
unfoldable pub file_listing : (file : List ℕ) → List ℕ
file_listing file = refused_or (read_fault file (zeros 256) (zeros 2048) (zeros 2048)) (listing_of (picture_of file) (zeros 65536))
