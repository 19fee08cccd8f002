-- The files at which an arrow is a certificate, and those that the arrows of a sign reach. A set of boxes, of files or of tails is a test on
-- numbers here; the code's words and tables say the same tests. Assumes nothing.
use Rattle.std.specs.Prelude.{Bool, not, ◌&&◌, ◌||◌, ℕ, length}
use Rattle.base.specs.Steps.{any_below}
use Rattle.tables.specs.Rows.{Picture, arrow_count}
use Rattle.tables.specs.declared.Arrow.{Arrow}
use Rattle.containment.specs.Contains.{around}
use Rattle.meaning.specs.Meaning.{nests, hits}
use Rattle.mode_sets.specs.Mode.{heads_of}

module _ (pic : Picture) where
  -- file f is in one of the boxes: some box of the picture is one of them, and is f or contains it
  unfoldable pub in_one : (boxes : ℕ → Bool) (f : ℕ) → Bool
  in_one boxes f = any_below (λ g. boxes g && around pic.rows g f) (length pic.boxes)

  module _ (mode : ℕ) where
    -- the heads of the arrows of the opposite sign around user u that arrow p does not override: those whose head is nested in p's,
    -- those whose tail is nested in p's, and those neither of whose ends has p's nested in it
    unfoldable pub blocks : (opposite u : ℕ) (p : Arrow) (g : ℕ) → Bool
    blocks opposite u p g =
        (heads_of pic.arrows mode opposite (λ t. around pic.rows t u) g && nests pic p.head g)
        || (heads_of pic.arrows mode opposite (λ t. around pic.rows t u && nests pic p.tail t) g
        || (heads_of pic.arrows mode opposite (λ t. around pic.rows t u && not (nests pic t p.tail)) g
        && not (nests pic g p.head)))

    -- the files at which arrow p, whose tail is around u, is a certificate
    unfoldable pub certified : (opposite u : ℕ) (p : Arrow) (f : ℕ) → Bool
    certified opposite u p f = around pic.rows p.head f && not (in_one (blocks opposite u p) f)

    -- an arrow of the sign reaches the pair
    unfoldable pub reached_by : (sign u f : ℕ) → Bool
    reached_by sign u f = any_below (hits pic mode sign u f) (arrow_count pic.arrows)
