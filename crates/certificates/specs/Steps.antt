-- What the functions ask of and promise each other. Assumes nothing.
use Rattle.std.specs.Prelude.{◌≡◌, Bool, ◌&&◌, List, ℕ, length}
use Rattle.std.specs.Prelude.{None as none}
use Rattle.tables.specs.Rows.{Picture, arrow_count}
use Rattle.tables.specs.Steps.{SoundRows, SoundArrows}
use Rattle.containment.specs.Contains.{around, loop_fault}
use Rattle.containment.specs.Steps.{Closure}
use Rattle.meaning.specs.Meaning.{positive, negative}
use Rattle.boxsets.specs.Sets.{is_in}
use Rattle.mode_sets.specs.Mode.{heads_of, tails_below}
use Rattle.certificates.specs.Blocks.{reached_by}
use Rattle.certificates.specs.declared.Near.{Near}
use Rattle.certificates.specs.declared.Sign.{Sign}
use Rattle.certificates.specs.declared.Sign.TheVariants.{Negative, Positive}

-- the number that stands for a sign in the table of arrows
abbrev pub sign_number : Sign → ℕ
sign_number Negative = negative
sign_number Positive = positive

-- a picture that passes checks 1 to 7 and 10, and the closure of its rows
pub record Drawn (pic : Picture) (closure : List ℕ) : Type 0 where
  pub rows-sound : SoundRows pic.boxes pic.rows
  pub arrows-sound : SoundArrows pic.boxes pic.arrows
  pub no-loops : loop_fault pic.boxes pic.rows ≡ none
  pub closed : Closure (length pic.boxes) pic.rows closure

module _ (pic : Picture) (mode : ℕ) where
  -- the arrows of a sign around user u
  pub record NearBy (sign u : ℕ) (asked : ℕ → Bool) (x : Near) : Type 0 where
    pub tails-are : (t : ℕ) → is_in x.tails t
        ≡ (around pic.rows t u && tails_below pic.arrows mode (arrow_count pic.arrows) sign t)
    pub heads-are : (g : ℕ) → is_in x.heads g ≡ heads_of pic.arrows mode sign (λ t. around pic.rows t u) g
    pub files-are : (f : ℕ) → is_in x.files f ≡ (asked f && reached_by pic mode sign u f)
