-- The stages of the calls: the early checks, and what is known of a picture that passed them and check 10.
-- Assumes nothing.
use mathlib.Core.Path.{◌≡◌}
use mathlib.Core.Bool.{not, ◌&&◌}
use mathlib.Core.List.{List}
use Rattle.std.specs.Prelude.{Option, None as none}
use Prim.Native.Nat.{ℕ, ◌*◌, ◌<◌, ◌≤◌}
use lib.ListN.{length}
use Rattle.base.specs.Search.{or_else}
use Rattle.base.proofs.Tests.{and_T}
use Rattle.base.proofs.SearchLaws.{given-none}
use Rattle.tables.specs.Rows.{Picture, user, file}
use Rattle.tables.specs.Atoms.{atom, pair_count}
use Rattle.tables.specs.Faults.{table_fault, room_fault}
use Rattle.tables.specs.Refusals.{verdict_of}
use Rattle.tables.specs.declared.Refusal.TheVariants.{NotAtomic}
use Rattle.tables.specs.Steps.{SoundRows}
use Rattle.tables.specs.declared.Refusal.{Refusal}
use Rattle.std.specs.Prelude.{Ok}
use Rattle.tables.proofs.TableLaws.{both-none, not-not, room-passed, sound-rows, sound-arrows}
use Rattle.tables.proofs.AtomPlaces.{atom-there}
use Rattle.tables.proofs.Verdicts.{passed}
use Rattle.containment.specs.Contains.{loop_fault}
use Rattle.scratch.specs.Scratch.{scratch_fault, early_fault, mode_early}
use Rattle.containment.specs.Steps.{Closure}
use Rattle.scratch.proofs.ScratchLaws.{scratch-room}
use Rattle.scratch.proofs.PictureLaws.{early-parts, mode-parts}
use Rattle.certificates.specs.Steps.{Drawn}
use Rattle.answers.specs.Calls.{asked_fault, matrix_early}

-- where check 11 passes, both boxes are there
pub asked-there : (boxes rows : List ℕ) (u f : ℕ) → asked_fault boxes rows u f ≡ none → (u < length boxes) × (f < length boxes)
unfolding asked_fault
asked-there boxes rows u f e =
    let asked = atom boxes rows user u && atom boxes rows file f in
    let both = and_T (atom boxes rows user u) (atom boxes rows file f) (not-not asked (given-none (not asked) (NotAtomic u f) e)) in
    (atom-there boxes rows user u both.0, atom-there boxes rows file f both.1)

module _ (pic : Picture) (s : List ℕ) where
  -- ---- the early checks

  -- checks that the tables and the scratch pass
  abbrev pub Early : Option Refusal → Type 0
  Early e = e ≡ none → (table_fault pic ≡ none) × (scratch_fault (length pic.boxes) s ≡ none)

  pub picture-early : Early (early_fault pic s)
  picture-early = early-parts pic s

  pub mode-early : (m : ℕ) → Early (mode_early pic s m)
  mode-early m = mode-parts pic s m

  -- those of the matrix, and the two buffers suffice
  pub matrix-parts : (m : ℕ) (bytes numbers : List ℕ) → matrix_early pic s m bytes numbers ≡ none
      → (table_fault pic ≡ none) × (scratch_fault (length pic.boxes) s ≡ none)
      × (pair_count pic.boxes pic.rows ≤ length bytes) × (pair_count pic.boxes pic.rows ≤ length numbers)
  unfolding matrix_early
  matrix-parts m bytes numbers e =
      let pairs = pair_count pic.boxes pic.rows in
      let last = or_else (room_fault 1 (length bytes) pairs) (room_fault 2 (length numbers) pairs) in
      let a = both-none (mode_early pic s m) last e in
      let p = mode-parts pic s m a.0 in
      let d = both-none (room_fault 1 (length bytes) pairs) (room_fault 2 (length numbers) pairs) a.1 in
      (p.0, p.1, room-passed 1 (length bytes) pairs d.0, room-passed 2 (length numbers) pairs d.1)

  pub matrix-early : (m : ℕ) (bytes numbers : List ℕ) → Early (matrix_early pic s m bytes numbers)
  matrix-early m bytes numbers e = let p = matrix-parts m bytes numbers e in (p.0, p.1)

  -- ---- where the early checks passed

  module _ (e : Option Refusal) (early : Early e) (clear : verdict_of e ≡ Ok tt) where
    pub early-sound : SoundRows pic.boxes pic.rows
    early-sound = sound-rows pic.boxes pic.rows pic.arrows (early (passed e clear)).0

    pub early-room : length pic.boxes * length pic.boxes ≤ length s
    early-room = scratch-room (length pic.boxes) s (early (passed e clear)).1

    -- and check 10
    pub early-drawn : (closure : List ℕ) → verdict_of (loop_fault pic.boxes pic.rows) ≡ Ok tt → Closure (length pic.boxes) pic.rows closure
        → Drawn pic closure
    early-drawn closure no-loops closed = record {
      rows-sound = early-sound;
      arrows-sound = sound-arrows pic.boxes pic.rows pic.arrows (early (passed e clear)).0;
      no-loops = passed (loop_fault pic.boxes pic.rows) no-loops;
      closed = closed;
    }
