-- The listing of a picture, as bytes (document 01, "The program's listing"). Assumes nothing.
use Rattle.std.specs.Prelude.{Bool, cond, List, [], ◌++◌, ℕ, ltb, length, Result, Ok, Err}
use Rattle.tables.specs.Rows.{Picture, row_count, arrow_count}
use Rattle.tables.specs.Refusals.{verdict_of, numbers_of}
use Rattle.tables.specs.declared.Numbers.{Numbers}
use Rattle.tables.specs.declared.Refusal.{Refusal}
use Rattle.meaning.specs.Meaning.{mode_arrows}
use Rattle.meaning.specs.Pairs.{pairs, user_at, file_at, answer_at, any_unclear}
use Rattle.blocks.specs.Blocks.{joined}
use Rattle.lines.specs.Lines.{line_text}
use Rattle.lines.specs.declared.Line.{Line}
use Rattle.lines.specs.declared.Line.TheVariants.{Counts, Pair, Last}

-- the mode has an arrow
unfoldable pub used : (arrows : List ℕ) (m : ℕ) → Bool
used arrows m = ltb 0 (length (mode_arrows arrows m))

-- a verdict, with a refusal as its number and three numbers
abbrev pub in_numbers : (v : Result Unit Refusal) → Result Unit Numbers
in_numbers (Ok done) = Ok done
in_numbers (Err r) = Err (numbers_of r)

module _ (pic : Picture) where
  -- the first line
  unfoldable pub counts_line : Line
  counts_line = Counts (length pic.boxes) (row_count pic.rows) (arrow_count pic.arrows)

  -- the line of the pair at place p (by user, then file) in mode m
  unfoldable pub pair_line : (m p : ℕ) → Line
  pair_line m p = Pair m (user_at pic p) (file_at pic p) (answer_at pic m p)

  -- the lines of mode m: only modes with an arrow are listed
  unfoldable pub mode_text : (m : ℕ) → List ℕ
  mode_text m = cond (used pic.arrows m) (joined (λ p. line_text (pair_line m p)) (pairs pic)) []

  -- the listing of a picture that is not refused
  unfoldable pub picture_listing : List ℕ
  picture_listing = line_text counts_line ++ (joined mode_text 8 ++ line_text (Last (in_numbers (verdict_of (any_unclear pic)))))
