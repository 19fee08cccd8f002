-- The lines of the listing (document 01, "The program's listing"). Assumes nothing.
use Rattle.std.specs.Prelude.{List, [], ◌∷◌, ℕ, Ok, Err}
use Rattle.tables.specs.declared.Numbers.{Numbers}
use Rattle.meaning.specs.declared.Entry.{Entry}
use Rattle.meaning.specs.declared.Entry.TheVariants.{Granted, Denied, Default, Unclear}
use Rattle.lines.specs.Text.{text, decimal, line}
use Rattle.lines.specs.declared.Line.{Line}
use Rattle.lines.specs.declared.Line.TheVariants.{Counts, Pair, Last, Stopped}

-- the answer, arrow: default is "neg -", unclear "ambig" with its two arrows
unfoldable pub answer_fields : (e : Entry) → List (List ℕ)
answer_fields (Granted k) = text "pos" ∷ decimal k ∷ []
answer_fields (Denied k) = text "neg" ∷ decimal k ∷ []
answer_fields Default = text "neg" ∷ text "-" ∷ []
answer_fields (Unclear p n) = text "ambig" ∷ decimal p ∷ decimal n ∷ []

-- the three numbers of a refusal
unfoldable pub three_fields : (r : Numbers) → List (List ℕ)
three_fields r = decimal r.first ∷ decimal r.second ∷ decimal r.third ∷ []

unfoldable pub line_text : (l : Line) → List ℕ
-- the first line: the three row counts read
line_text (Counts boxes rows arrows) =
    line (text "boxes" ∷ decimal boxes ∷ text "containments" ∷ decimal rows ∷ text "arrows" ∷ decimal arrows ∷ [])
-- a pair line: mode, user, file, answer, arrow
line_text (Pair m u f e) = line (decimal m ∷ decimal u ∷ decimal f ∷ answer_fields e)
-- the last line: "accepted", or "ambiguous" with mode, user, file
line_text (Last (Ok done)) = line (text "accepted" ∷ [])
line_text (Last (Err r)) = line (text "ambiguous" ∷ three_fields r)
-- the only line of a refused file or picture: "refused", the number, its three numbers
line_text (Stopped r) = line (text "refused" ∷ decimal r.number ∷ three_fields r)
