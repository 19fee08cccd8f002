-- What the functions ask of and promise each other. Assumes nothing.
use Rattle.std.specs.Prelude.{Result, ◌≡◌, List, ℕ, ◌*◌, ◌-◌, ◌<◌, ◌≤◌, length, take}
use Rattle.tables.specs.Rows.{Picture}
use Rattle.tables.specs.Refusals.{verdict_of}
use Rattle.meaning.specs.Pairs.{users, files}
use Rattle.boxsets.specs.Sets.{Boxes}
use Rattle.mode_sets.specs.Steps.{Small}
use Rattle.certificates.specs.Steps.{Drawn}
use Rattle.tables.specs.declared.Refusal.{Refusal}
use Rattle.lines.specs.Steps.{Moved, Holds}
use Rattle.lines.specs.declared.pen.Pen.{Pen}
use Rattle.listing.specs.PairRows.{used_modes, row_text, row_unclear, line_rows, rows_from, seen_before}
use Rattle.listing.specs.declared.Place.{Place}
use Rattle.listing.specs.declared.Chunk.{Chunk}

-- ---- what keeps every index in range

-- the tables that rows are made from
pub record InRange (arrows us fs : List ℕ) : Type 0 where
  pub small : Small arrows
  pub users-small : Boxes us
  pub files-small : Boxes fs
  pub few-users : length us ≤ 256
  pub few-files : length fs ≤ 256

-- a place among the rows of so many users
pub record Fits (us : List ℕ) (p : Place) : Type 0 where
  pub few-used : p.used ≤ 8
  pub within : p.row ≤ p.used * length us

-- ---- what is said of a picture

-- a picture without faults, and the tables made of it
pub record Prepared (pic : Picture) (closure arrows us fs : List ℕ) : Type 0 where
  pub drawn : Drawn pic closure
  pub arrows-are : arrows ≡ pic.arrows
  pub users-are : us ≡ users pic
  pub files-are : fs ≡ files pic

module _ (pic : Picture) where
  -- a row was put from a place on, and its first unclear pair is told
  pub record RowPut (mode u : ℕ) (fs : List ℕ) (old new : Pen) (told : Result Unit Refusal) : Type 0 where
    pub put : Moved old (row_text pic mode u fs (length fs)) (length fs * 111) new
    pub unclear-is : told ≡ verdict_of (row_unclear pic mode u fs)

  -- a place among the rows: the modes with an arrow, the next row, and the first unclear pair before it
  pub record Stands (p : Place) : Type 0 where
    pub modes-are : take p.used p.modes ≡ used_modes pic.arrows
    pub used-are : p.used ≡ length (used_modes pic.arrows)
    pub within : p.row ≤ line_rows pic
    pub seen_are : p.seen ≡ seen_before pic p.row

  -- whole rows at the start of the buffer, the place after them, and at least one of them if there is one left
  pub record Filled (from : Place) (old new : List ℕ) (c : Chunk) : Type 0 where
    pub stands : Stands c.next
    pub onward : from.row ≤ c.next.row
    pub holds : Holds (rows_from pic from.row (c.next.row - from.row)) old new c.bytes
    pub some-row : from.row < line_rows pic → from.row < c.next.row
