-- Document 02, P1: the packed file of a picture that checks 1 to 7 pass is good and says the picture's tables, so reading it returns
-- them, and pictures with the same packed bytes are the same. Assumes nothing.
use mathlib.Core.Path.{◌≡◌, sym, ap, ◌∙◌}
use Rattle.std.proofs.Common.{Result, Ok}
use Rattle.tables.specs.declared.Refusal.{Refusal}
use mathlib.Core.List.{List}
use Rattle.std.specs.Prelude.{None as none}
use Prim.Native.Nat.{ℕ, ◌<◌, ◌≤◌}
use native.Mathlib.Omega.{arith}
use lib.ListN.{length}
use Rattle.base.specs.Buffers.{written}
use Rattle.tables.specs.Rows.{Picture, row_count, arrow_count}
use Rattle.tables.specs.Refusals.{unless_refused}
use Rattle.tables.specs.Faults.{table_fault}
use Rattle.tables.proofs.TableLaws.{room-enough, counts-few, sound-rows, sound-arrows}
use Rattle.blocks.specs.Files.{file_fault, table_of, picture_of}
use Rattle.blocks.specs.Reads.{row_counts, read_fault, answer_of}
use Rattle.blocks.specs.Steps.{table_in, counts_of}
use Rattle.blocks.specs.declared.Counts.{Counts}
use Rattle.blocks.proofs.Made.{made_table, made-counts, made-good, made-read}
use Rattle.blocks.proofs.MadeBlocks.{counts-in, tables-passed}
use Rattle.packing.specs.Packed.{packed}
use Rattle.packing.proofs.PackedBlocks.{blocks, blocks_all, packed-is, blocks-whole, blocks-good, blocks-few, boxes-packed, containments-packed, arrows-packed}

module _ (pic : Picture) (sound : table_fault pic ≡ none) where
  few : (0 < blocks_all pic) × (blocks_all pic ≤ 17)
  few =
      let r = sound-rows _ _ _ sound in
      blocks-few pic r.few-boxes r.few-rows (sound-arrows _ _ _ sound).few-arrows

  rows-said : table_in 2 (blocks pic) (blocks_all pic) ≡ pic.rows
  rows-said = containments-packed pic (sound-rows _ _ _ sound).whole

  arrows-said : table_in 3 (blocks pic) (blocks_all pic) ≡ pic.arrows
  arrows-said =
      let a = sound-arrows _ _ _ sound in
      arrows-packed pic a.whole a.mode-most a.sign-most

  -- the packed file is good
  pub packed-good : file_fault (packed pic) ≡ none
  packed-good =
      rw packed-is
      (made-good (blocks pic) _ (blocks-whole pic) few.0 (omega (arith, few.1)) (blocks-good pic))

  -- it says the picture's tables
  pub packed-boxes : table_of 1 (packed pic) ≡ pic.boxes
  packed-boxes = rw packed-is (made_table _ _ (blocks-whole pic) 1 ∙ boxes-packed pic)

  pub packed-containments : table_of 2 (packed pic) ≡ pic.rows
  packed-containments = rw packed-is (made_table _ _ (blocks-whole pic) 2 ∙ rows-said)

  pub packed-arrows : table_of 3 (packed pic) ≡ pic.arrows
  packed-arrows = rw packed-is (made_table _ _ (blocks-whole pic) 3 ∙ arrows-said)

  pub packed-picture : picture_of (packed pic) ≡ pic
  packed-picture = rw (packed-boxes, packed-containments, packed-arrows)

  pub packed-counts : counts_of (packed pic)
      ≡ record { boxes = length pic.boxes; containments = row_count pic.rows; arrows = arrow_count pic.arrows }
  packed-counts =
      rw packed-is
      (made-counts _ _ (blocks-whole pic)
      ∙ counts-in _ _ pic.boxes pic.rows pic.arrows (boxes-packed pic) rows-said arrows-said)

  -- P1: reading a packed file into buffers that suffice answers the row counts and leaves the same three tables there
  module _ (b r a : List ℕ) (box-room : length pic.boxes ≤ length b) (row_room : length pic.rows ≤ length r)
      (arrow-room : length pic.arrows ≤ length a) where
    no-fault : read_fault (packed pic) b r a ≡ none
    no-fault =
        let s = sound-rows _ _ _ sound in
        let t = sound-arrows _ _ _ sound in
        let c = counts-in _ _ pic.boxes pic.rows pic.arrows (boxes-packed pic) rows-said arrows-said in
        rw packed-is
        (made-read _ _ (blocks-whole pic) few.0 (omega (arith, few.1)) (blocks-good pic) b r a
        ∙ rw c (tables-passed _ (length b) (length r) (length a)
        (counts-few _ _ _ s.few-boxes s.few-rows t.few-arrows)
        (room-enough 5 _ _ box-room) (room-enough 6 _ _ (omega arith)) (room-enough 7 _ _ (omega arith))))

  pub read_back : (b r a : List ℕ) → length pic.boxes ≤ length b → length pic.rows ≤ length r → length pic.arrows ≤ length a
      → let fault = read_fault (packed pic) b r a in
      (answer_of fault (row_counts (picture_of (packed pic)))
      ≡ Ok (record { boxes = length pic.boxes; containments = row_count pic.rows; arrows = arrow_count pic.arrows }))
      × (unless_refused fault (picture_of (packed pic)).boxes b ≡ written pic.boxes b)
      × (unless_refused fault (picture_of (packed pic)).rows r ≡ written pic.rows r)
      × (unless_refused fault (picture_of (packed pic)).arrows a ≡ written pic.arrows a)
  read_back b r a p q s =
      let e = no-fault b r a p q s in (
        rw e (ap {B = Result Counts Refusal} (λ (c : Counts). Ok c) packed-counts),
        rw e (ap (λ (l : List ℕ). written l b) packed-boxes),
        rw e (ap (λ (l : List ℕ). written l r) packed-containments),
        rw e (ap (λ (l : List ℕ). written l a) packed-arrows),
      )

-- P1: two pictures have the same packed bytes only if their tables are equal
pub same_bytes : (pic other : Picture) → table_fault pic ≡ none → table_fault other ≡ none → packed pic ≡ packed other
    → (pic.boxes ≡ other.boxes) × (pic.rows ≡ other.rows) × (pic.arrows ≡ other.arrows)
same_bytes pic other s s' e = (
  sym (packed-boxes pic s) ∙ ap (table_of 1) e ∙ packed-boxes other s',
  sym (packed-containments pic s) ∙ ap (table_of 2) e ∙ packed-containments other s',
  sym (packed-arrows pic s) ∙ ap (table_of 3) e ∙ packed-arrows other s',
)
