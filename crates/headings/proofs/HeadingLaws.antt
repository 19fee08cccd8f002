-- The stages of the call: a refusal by checks 1 to 7, one by check 9, and none. Assumes nothing.
use mathlib.Core.Path.{◌≡◌, refl, sym, ◌∙◌}
use mathlib.Core.List.{List, []}
use Rattle.std.specs.Prelude.{Option, None as none, Some as some}
use Prim.Native.Nat.{ℕ, ◌≤◌}
use native.Mathlib.Omega.{arith}
use lib.ListN.{length, take}
use Rattle.base.specs.Search.{or_else}
use Rattle.base.specs.Buffers.{written, zeros}
use Rattle.base.proofs.BufferLaws.{zeros-length}
use Rattle.base.proofs.PartLaws.{Wrote, part-is, part-within}
use Rattle.tables.specs.Rows.{picture, user, file}
use Rattle.tables.specs.Atoms.{atoms}
use Rattle.tables.specs.Faults.{table_fault, room_fault}
use Rattle.tables.specs.Refusals.{verdict_of, unless_refused}
use Rattle.tables.specs.Steps.{SoundRows}
use Rattle.tables.specs.declared.Refusal.{Refusal}
use Rattle.std.specs.Prelude.{Result, Ok, Err}
use Rattle.tables.proofs.AtomPlaces.{atoms-most}
use Rattle.tables.proofs.TableLaws.{room-passed, sound-rows}
use Rattle.tables.proofs.Verdicts.{passed, refused, refuses, passes}
use Rattle.headings.specs.Calls.{headings_of, heading_fault, users_after, files_after}

-- the answer by the fault
pub headings-written : (boxes rows : List ℕ)
    → headings_of boxes rows none ≡ Ok (length (atoms boxes rows user), length (atoms boxes rows file))
unfolding headings_of
headings-written boxes rows = refl

pub headings-refused : (boxes rows : List ℕ) (r : Refusal) → headings_of boxes rows (some r) ≡ Err r
unfolding headings_of
headings-refused boxes rows r = refl

module _ (boxes rows users files : List ℕ) where
  -- what the call answers, and the two buffers at the end
  abbrev pub Ends : Result (ℕ × ℕ) Refusal → List ℕ → List ℕ → Type 0
  Ends r u f =
      (r ≡ headings_of boxes rows (heading_fault boxes rows users files))
      × ((u ≡ users_after boxes rows users files) × (f ≡ files_after boxes rows users files))

  -- the fault decides
  ends : (o : Option Refusal) → heading_fault boxes rows users files ≡ o
      → Ends (headings_of boxes rows o) (unless_refused o (atoms boxes rows user) users)
      (unless_refused o (atoms boxes rows file) files)
  unfolding users_after files_after
  ends o e = (rw e, (rw e, rw e))

  -- refused, by whichever check
  ends-refused : (r : Refusal) → Err r ≡ verdict_of (heading_fault boxes rows users files) → Ends (Err r) users files
  unfolding headings_of
  ends-refused r e = ends (some r) (refused _ r (sym e))

  -- refused by checks 1 to 7
  pub by-tables : {v : Result Unit Refusal} {r : Refusal} → v ≡ verdict_of (table_fault (picture boxes rows [])) → v ≡ Err r
      → Ends (Err r) users files
  unfolding heading_fault
  by-tables t e = ends-refused _ (refuses (table_fault (picture boxes rows [])) _ _ (sym t ∙ e))

-- the tables passed, and the atomic boxes of each side stand at the start of an array of 256
pub record Found (boxes rows us fs : List ℕ) (m n : ℕ) : Type 0 where
  pub tabled : verdict_of (table_fault (picture boxes rows [])) ≡ Ok tt
  pub users-in : Wrote (atoms boxes rows user) (zeros 256) m us
  pub files-in : Wrote (atoms boxes rows file) (zeros 256) n fs

-- an array of 256 has a place for each atomic box of a side
array-suffices : {boxes rows out : List ℕ} {count : ℕ} (side : ℕ) → SoundRows boxes rows
    → Wrote (atoms boxes rows side) (zeros 256) count out → count ≤ length out
array-suffices {boxes} {rows} side s w = part-within _ _ _ _ w (omega (arith, atoms-most boxes rows side, s.few-boxes, zeros-length 256))

module _ {boxes rows us fs : List ℕ} {m n : ℕ} (users files : List ℕ) (found : Found boxes rows us fs m n) where
  -- check 9, for both buffers
  rooms : Option Refusal
  rooms = or_else (room_fault 11 (length users) m) (room_fault 12 (length files) n)

  -- the tables passed, so check 9 decides
  rooms-decide : verdict_of rooms ≡ verdict_of (heading_fault boxes rows users files)
  unfolding heading_fault rooms
  rooms-decide = rw (found.users-in.0, found.files-in.0) (passes _ _ found.tabled)

  -- refused by check 9
  by-rooms : {r : Refusal} → verdict_of rooms ≡ Err r → Ends boxes rows users files (Err r) users files
  by-rooms e = ends-refused boxes rows users files _ (sym e ∙ rooms-decide)

  -- for the users' buffer, and for the files'
  pub by-users : {r : Refusal} → verdict_of (room_fault 11 (length users) m) ≡ Err r → Ends boxes rows users files (Err r) users files
  unfolding rooms
  by-users e = by-rooms (sym (refuses _ _ _ e))

  module _ (users-fit : verdict_of (room_fault 11 (length users) m) ≡ Ok tt) where
    pub by-files : {r : Refusal} → verdict_of (room_fault 12 (length files) n) ≡ Err r
        → Ends boxes rows users files (Err r) users files
    unfolding rooms
    by-files e = by-rooms (sym (passes _ _ users-fit) ∙ e)

    -- so many are in the array, and so many fit into the buffer
    pub users-suffice : (m ≤ length us) × (m ≤ length users)
    users-suffice =
        let sound = sound-rows boxes rows [] (passed _ found.tabled) in
        (array-suffices user sound found.users-in, room-passed 11 (length users) m (passed _ users-fit))

    module _ (files-fit : verdict_of (room_fault 12 (length files) n) ≡ Ok tt) where
      pub files-suffice : (n ≤ length fs) × (n ≤ length files)
      files-suffice =
          let sound = sound-rows boxes rows [] (passed _ found.tabled) in
          (array-suffices file sound found.files-in, room-passed 12 (length files) n (passed _ files-fit))

      -- not refused, and the buffers are written
      pub by-none : {u f : List ℕ} → u ≡ written (take m us) users → f ≡ written (take n fs) files
          → Ends boxes rows users files (Ok (m, n)) u f
      unfolding headings_of rooms
      by-none eu ef =
          rw (eu, ef, part-is _ _ _ _ found.users-in, part-is _ _ _ _ found.files-in, found.users-in.0, found.files-in.0)
          (ends boxes rows users files none (passed _ (sym rooms-decide ∙ sym (passes _ _ users-fit) ∙ files-fit)))
