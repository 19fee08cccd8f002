-- What holds of a picture that passes checks 1 to 7, 9 for the scratch, and 10; and 8 for a mode. Assumes nothing.
use mathlib.Core.Path.{◌≡◌, refl}
use mathlib.Core.List.{List}
use Rattle.std.specs.Prelude.{None as none}
use Prim.Native.Nat.{ℕ, ◌*◌, ◌≤◌}
use lib.ListN.{length}
use Rattle.base.specs.Search.{or_else}
use Rattle.tables.specs.Rows.{Picture, picture}
use Rattle.tables.specs.Faults.{table_fault, mode_fault}
use Rattle.tables.specs.Steps.{SoundRows, SoundArrows}
use Rattle.tables.proofs.TableLaws.{both-none, sound-rows, sound-arrows}
use Rattle.containment.specs.Contains.{loop_fault}
use Rattle.scratch.specs.Scratch.{scratch_fault, early_fault, mode_early, picture_fault}
use Rattle.scratch.proofs.ScratchLaws.{scratch-room}

pub record Prepared (boxes rows arrows s : List ℕ) : Type 0 where
  pub rows-sound : SoundRows boxes rows
  pub arrows-sound : SoundArrows boxes arrows
  pub room : length boxes * length boxes ≤ length s

pub prepared : (boxes rows arrows s : List ℕ) → table_fault (picture boxes rows arrows) ≡ none → scratch_fault (length boxes) s ≡ none → Prepared boxes rows arrows s
prepared boxes rows arrows s t r = record {
  rows-sound = sound-rows boxes rows arrows t;
  arrows-sound = sound-arrows boxes rows arrows t;
  room = scratch-room (length boxes) s r;
}

-- the checks before the closure are those of the tables and of the scratch
pub early-parts : (pic : Picture) (s : List ℕ) → early_fault pic s ≡ none → (table_fault pic ≡ none) × (scratch_fault (length pic.boxes) s ≡ none)
unfolding early_fault
early-parts pic s e = both-none (table_fault pic) (scratch_fault (length pic.boxes) s) e

-- they found nothing
pub early-prepared : (boxes rows arrows s : List ℕ) → early_fault (picture boxes rows arrows) s ≡ none → Prepared boxes rows arrows s
early-prepared boxes rows arrows s e =
    let two = early-parts (picture boxes rows arrows) s e in
    prepared boxes rows arrows s two.0 two.1

-- nor did the loops
pub picture-prepared : (boxes rows arrows s : List ℕ) → picture_fault (picture boxes rows arrows) s ≡ none → Prepared boxes rows arrows s × (early_fault (picture boxes rows arrows) s ≡ none)
unfolding picture_fault
picture-prepared boxes rows arrows s e =
    let early = (both-none (early_fault (picture boxes rows arrows) s) (loop_fault boxes rows) e).0 in
    (early-prepared boxes rows arrows s early, early)

-- the checks before the closure, then the loops, are all checks
pub picture-stages : (boxes rows arrows s : List ℕ)
    → or_else (early_fault (picture boxes rows arrows) s) (loop_fault boxes rows) ≡ picture_fault (picture boxes rows arrows) s
unfolding picture_fault
picture-stages boxes rows arrows s = refl

-- all checks found nothing
pub picture-clear : (boxes rows arrows s : List ℕ) → picture_fault (picture boxes rows arrows) s ≡ none → loop_fault boxes rows ≡ none
unfolding picture_fault
picture-clear boxes rows arrows s e = (both-none (early_fault (picture boxes rows arrows) s) (loop_fault boxes rows) e).1

-- of the scratch, the checks read its length only
pub picture-room : (boxes rows arrows s t : List ℕ) → length s ≡ length t
    → picture_fault (picture boxes rows arrows) s ≡ picture_fault (picture boxes rows arrows) t
unfolding picture_fault early_fault scratch_fault
picture-room boxes rows arrows s t e = rw e

-- ---- checks 1 to 9 of a call for a mode

module _ (pic : Picture) (s : List ℕ) (mode : ℕ) where
  -- one after the other
  pub mode-is : mode_early pic s mode ≡ or_else (table_fault pic) (or_else (mode_fault mode) (scratch_fault (length pic.boxes) s))
  unfolding mode_early
  mode-is = refl

  pub mode-parts : mode_early pic s mode ≡ none → (table_fault pic ≡ none) × (scratch_fault (length pic.boxes) s ≡ none)
  unfolding mode_early
  mode-parts e =
      let a = both-none (table_fault pic) (or_else (mode_fault mode) (scratch_fault (length pic.boxes) s)) e in
      (a.0, (both-none (mode_fault mode) (scratch_fault (length pic.boxes) s) a.1).1)
