-- The arrows of a mode that a list has, what they give, and what a call for a list needs (document 01, "Meaning" and "Who can cause a
-- refusal"). Assumes nothing.
use Rattle.std.specs.Prelude.{Bool, not, cond, ◌&&◌, List, ℕ, eqb, ltb, length}
use Rattle.tables.specs.Rows.{Picture, arrow_count}
use Rattle.meaning.specs.Meaning.{positive, negative, has_mode, mode_arrows, is_granted, is_unclear}
use Rattle.meaning.specs.declared.Entry.{Entry}

-- a pair gets granted from a positive arrow and denied from a negative one: an arrow of sign s gives the answer e
unfoldable pub gives : (s : ℕ) (e : Entry) → Bool
gives s e = cond (is_granted e) (eqb s positive) (eqb s negative && not (is_unclear e))

-- k is the number of an arrow of mode m
unfoldable pub of_mode : (arrows : List ℕ) (m k : ℕ) → Bool
of_mode arrows m k = ltb k (arrow_count arrows) && has_mode arrows m k

-- the needed length of the list: a place for each arrow of the mode
abbrev pub list_room : (pic : Picture) (m : ℕ) → ℕ
list_room pic m = length (mode_arrows pic.arrows m)
