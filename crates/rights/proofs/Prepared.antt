-- What the program hands on: the atomic boxes as parts of buffers, and a picture that passed all checks. Assumes nothing.
use mathlib.Core.Path.{◌≡◌, refl, sym, ap, ◌∙◌}
use mathlib.Core.List.{List}
use Prim.Native.Nat.{ℕ, ◌*◌, ◌≤◌}
use native.Mathlib.Omega.{arith}
use lib.ListN.{length, take}
use Rattle.std.proofs.Common.{replicate}
use Rattle.base.specs.Search.{or_else}
use Rattle.std.proofs.lemmas.List.{length-replicate}
use Rattle.base.proofs.PartLaws.{Wrote, part-is, part_length, part-within}
use Rattle.tables.specs.Rows.{picture, user, file}
use Rattle.tables.specs.Atoms.{atoms}
use Rattle.tables.specs.Refusals.{verdict_of}
use Rattle.tables.specs.declared.Refusal.{Refusal}
use Rattle.tables.specs.Steps.{SoundRows}
use Rattle.std.specs.Prelude.{Result, Ok}
use Rattle.tables.proofs.AtomPlaces.{atoms-most}
use Rattle.tables.proofs.Verdicts.{passed}
use Rattle.containment.specs.Contains.{loop_fault}
use Rattle.scratch.specs.Scratch.{early_fault, picture_fault}
use Rattle.containment.specs.Steps.{Closure}
use Rattle.scratch.proofs.PictureLaws.{early-prepared, picture-prepared, picture-clear, picture-stages}
use Rattle.certificates.specs.Steps.{Drawn}
use Rattle.listing.specs.Steps.{Prepared}

-- the atomic boxes of a side, at the start of a buffer of 256
module _ {boxes rows old out : List ℕ} {count : ℕ} (side : ℕ) (sound : SoundRows boxes rows) (room : old ≡ replicate 256 0)
    (w : Wrote (atoms boxes rows side) old count out) where
  pub atoms-there : count ≤ length out
  atoms-there =
      let n : length old ≡ 256 = ap length room ∙ length-replicate {A = ℕ} 256 0 in
      part-within (atoms boxes rows side) old count out w (omega (arith, atoms-most boxes rows side, sound.few-boxes))

  pub atoms-length : count ≡ length (take count out)
  atoms-length = part_length (atoms boxes rows side) old count out w

  pub atoms-part : take count out ≡ atoms boxes rows side
  atoms-part = part-is (atoms boxes rows side) old count out w

-- with them the picture is ready to be listed
pub ready : {boxes rows arrows closure us fs : List ℕ} → Drawn (picture boxes rows arrows) closure
    → us ≡ atoms boxes rows user → fs ≡ atoms boxes rows file → Prepared (picture boxes rows arrows) closure arrows us fs
ready d eu ef = record { drawn = d; arrows-are = refl; users-are = eu; files-are = ef }

-- the stages of the checks
module _ (boxes rows arrows s : List ℕ) {early : Result Unit Refusal} (told : early ≡ verdict_of (early_fault (picture boxes rows arrows) s)) where
  -- what the second asks of the first
  pub early-passed : early ≡ Ok tt → SoundRows boxes rows × (length boxes * length boxes ≤ length s)
  early-passed e =
      let all = early-prepared boxes rows arrows s (passed _ (sym told ∙ e)) in
      (all.rows-sound, all.room)

  -- both are all checks
  pub stages-are : {v : Result Unit Refusal} → v ≡ verdict_of (or_else (early_fault (picture boxes rows arrows) s) (loop_fault boxes rows))
      → v ≡ verdict_of (picture_fault (picture boxes rows arrows) s)
  stages-are e = e ∙ ap verdict_of (picture-stages boxes rows arrows s)

-- a picture that passed them, with its closure
pub drawn : (boxes rows arrows s : List ℕ) {v : Result Unit Refusal} {closure : List ℕ} → v ≡ verdict_of (picture_fault (picture boxes rows arrows) s)
    → v ≡ Ok tt → Closure (length boxes) rows closure → Drawn (picture boxes rows arrows) closure
drawn boxes rows arrows s told e closed =
    let none = passed _ (sym told ∙ e) in
    let all = (picture-prepared boxes rows arrows s none).0 in
    record { rows-sound = all.rows-sound; arrows-sound = all.arrows-sound; no-loops = picture-clear boxes rows arrows s none; closed = closed }
