-- The pair lines of a listing row by row, as the code goes through them: a row has the lines of one mode and one user. That the rows are
-- the pair lines of the listing is `rows_whole`, and that the last line is by what was seen in them `seen-whole` (proofs/WholeLaws).
-- Assumes nothing.
use Rattle.std.specs.Prelude.{Result, List, ℕ, ◌+◌, ◌*◌, ◌/◌, ◌%◌, length, get_or}
use Rattle.std.specs.Prelude.{Option}
use Rattle.base.specs.Search.{select, first, given}
use Rattle.tables.specs.Rows.{Picture}
use Rattle.tables.specs.Refusals.{verdict_of}
use Rattle.tables.specs.declared.Refusal.TheVariants.{UnclearPair}
use Rattle.tables.specs.declared.Refusal.{Refusal}
use Rattle.meaning.specs.Meaning.{answer, is_unclear}
use Rattle.meaning.specs.Pairs.{users, files}
use Rattle.blocks.specs.Blocks.{joined}
use Rattle.lines.specs.Lines.{line_text}
use Rattle.listing.specs.Listing.{used}
use Rattle.lines.specs.declared.Line.{Line}
use Rattle.lines.specs.declared.Line.TheVariants.{Pair}

-- the modes with an arrow, rising
unfoldable pub used_modes : (arrows : List ℕ) → List ℕ
used_modes arrows = select (used arrows) 8

module _ (pic : Picture) where
  -- the pair line of a mode, a user and a file
  unfoldable pub user_line : (mode u f : ℕ) → Line
  user_line mode u f = Pair mode u f (answer pic mode u f)

  -- mode, user and file where that pair is unclear
  unfoldable pub user_unclear : (mode u f : ℕ) → Option Refusal
  user_unclear mode u f = given (is_unclear (answer pic mode u f)) (UnclearPair mode u f)

  -- the first n lines of the row of a mode and a user, and its first unclear pair
  abbrev pub row_text : (mode u : ℕ) (fs : List ℕ) (n : ℕ) → List ℕ
  row_text mode u fs n = joined (λ c. line_text (user_line mode u (get_or fs c 0))) n

  abbrev pub row_unclear : (mode u : ℕ) (fs : List ℕ) → Option Refusal
  row_unclear mode u fs = first (λ c. user_unclear mode u (get_or fs c 0)) (length fs)

  -- how many rows there are; the mode and the user of row r
  unfoldable pub line_rows : ℕ
  line_rows = length (used_modes pic.arrows) * length (users pic)

  abbrev pub row_mode : (r : ℕ) → ℕ
  row_mode r = get_or (used_modes pic.arrows) (r / length (users pic)) 0

  abbrev pub row_user : (r : ℕ) → ℕ
  row_user r = get_or (users pic) (r % length (users pic)) 0

  -- n rows from row `from` on
  unfoldable pub rows_from : (from n : ℕ) → List ℕ
  rows_from from n = joined (λ k. row_text (row_mode (from + k)) (row_user (from + k)) (files pic) (length (files pic))) n

  -- the first unclear pair before row r
  unfoldable pub seen_before : (r : ℕ) → Result Unit Refusal
  seen_before r = verdict_of (first (λ k. row_unclear (row_mode k) (row_user k) (files pic)) r)
