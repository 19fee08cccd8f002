-- What the functions ask of and promise each other. Assumes nothing.
use Rattle.std.specs.Prelude.{◌≡◌, ◌&&◌, ◌||◌, List, ℕ, ◌<◌, ◌≤◌, length, get_or}
use Rattle.tables.specs.Rows.{Picture, arrow_count}
use Rattle.containment.specs.Contains.{around}
use Rattle.meaning.specs.Meaning.{positive, negative, answer}
use Rattle.boxsets.specs.Sets.{is_in}
use Rattle.boxsets.specs.declared.Set.{Set}
use Rattle.mode_sets.specs.Mode.{tails_below}

-- how many notes there are
abbrev pub note_count : ℕ
note_count = 107

-- each note is 0, or the place behind that of a user before place i
pub record Noted (i : ℕ) (notes : List ℕ) : Type 0 where
  pub len : length notes ≡ note_count
  pub before : (k : ℕ) → k < note_count → get_or notes k 0 ≤ i

module _ (pic : Picture) (mode : ℕ) where
  -- two users have the same answers
  abbrev pub Alike : (u v : ℕ) → Type 0
  Alike u v = (f : ℕ) → answer pic mode u f ≡ answer pic mode v f

  -- the tails of the mode's arrows around user u
  pub record TailsNear (u : ℕ) (tails : Set) : Type 0 where
    pub tails-are : (t : ℕ) → is_in tails t
        ≡ (around pic.rows t u
        && (tails_below pic.arrows mode (arrow_count pic.arrows) negative t
        || tails_below pic.arrows mode (arrow_count pic.arrows) positive t))
