-- The file made of its kinds, and the stages of the call: a refusal by checks 1 to 7, one by check 9, and none. Assumes nothing.
use mathlib.Core.Path.{◌≡◌, sym, ap, fun_ext, ◌∙◌}
use Rattle.std.proofs.Common.{Ok, Err}
use mathlib.Core.List.{List, [], ◌++◌, append_assoc}
use Prim.Native.Nat.{ℕ, ◌+◌, ◌*◌, ◌-◌, ◌≤◌}
use native.Mathlib.Omega.{arith}
use lib.ListN.{length, length-append}
use lib.Seq.{sets}
use Rattle.base.specs.Buffers.{written}
use Rattle.tables.specs.Rows.{Picture, row_count, arrow_count}
use Rattle.tables.specs.Faults.{table_fault, room_fault}
use Rattle.tables.specs.Refusals.{verdict_of}
use Rattle.tables.specs.Steps.{SoundRows, SoundArrows}
use Rattle.tables.specs.declared.Refusal.{Refusal}
use Rattle.base.proofs.BufferLaws.{written_none, written-run}
use Rattle.tables.proofs.TableLaws.{room-passed, sound-rows, sound-arrows}
use Rattle.tables.proofs.Verdicts.{passed, refused}
use Rattle.blocks.specs.Blocks.{capacity, joined}
use Rattle.blocks.proofs.MadeBlocks.{capacities}
use Rattle.packing.specs.Packed.{box_bytes, containment_bytes, arrow_bytes, block_of, least, blocks_for, packed}
use Rattle.packing.specs.Packed.{rows_of, record_bytes, blocks_of, first_of, kind_block, kind_bytes}
use Rattle.packing.specs.Packs.{pack_fault, pack_answer, file_after}
use Rattle.packer.specs.Kinds.{Kind, kind_of, block_in, BlocksFit}
use Rattle.packing.proofs.PackedLaws.{record-by-kind, count-in, kind-block, kind-bytes, by-kinds}
use Rattle.packing.proofs.CallLaws.{fault-of-tables, fault-of-room, pack-refused, pack-done}
use Rattle.packing.proofs.Lengths.{kind-length, packed-length}
use Rattle.packing.proofs.Regular.{rows-by-kind, blocks-by-kind, first-by-kind, fills-1, fills-2, fills-3, box-block}

-- the three kinds as the call knows them
abbrev pub box_kind : (pic : Picture) → Kind
box_kind pic = kind_of 1 1 500 (length pic.boxes) 0 (box_bytes pic.boxes)

abbrev pub containment_kind : (pic : Picture) → Kind
containment_kind pic = kind_of 2 4 125 (row_count pic.rows) 1 (containment_bytes pic.rows)

abbrev pub arrow_kind : (pic : Picture) (second : ℕ) → Kind
arrow_kind pic second = kind_of 3 6 83 (arrow_count pic.arrows) (1 + second) (arrow_bytes pic.arrows)

-- a kind of a picture has the blocks of the packed file
kind-made : (pic : Picture) (kind : Kind) → kind.capacity ≡ capacity kind.number → kind.rows ≡ rows_of pic kind.number
    → kind.first ≡ first_of pic kind.number → ((i : ℕ) → kind.bytes i ≡ record_bytes pic kind.number i)
    → (blocks : ℕ) → blocks ≡ blocks_of pic kind.number → joined (block_in kind) blocks ≡ kind_bytes pic kind.number
unfolding block_in
kind-made pic kind c r f b blocks e =
    let at : (k : ℕ) → block_in kind k ≡ kind_block pic kind.number k = λ k.
    rw (kind-block, count-in, c, r, f)
    (ap (block_of kind.number (first_of pic kind.number + k) (least (rows_of pic kind.number - capacity kind.number * k) (capacity kind.number)))
    (fun_ext (λ j. b (capacity kind.number * k + j)))) in
    rw (kind-bytes, e) (ap (λ (g : ℕ → List ℕ). joined g (blocks_of pic kind.number)) (fun_ext at))

-- the tables pass checks 1 to 7, and so many blocks of containments and of arrows are needed
pub record Counted (pic : Picture) (second third : ℕ) : Type 0 where
  pub tabled : verdict_of (table_fault pic) ≡ Ok tt
  pub second-for : second ≡ blocks_for 125 (row_count pic.rows)
  pub third-for : third ≡ blocks_for 83 (arrow_count pic.arrows)

module _ {pic : Picture} {second third : ℕ} (counted : Counted pic second third) where
  the-rows : SoundRows pic.boxes pic.rows
  the-rows = sound-rows _ _ _ (passed _ counted.tabled)

  the-arrows : SoundArrows pic.boxes pic.arrows
  the-arrows = sound-arrows _ _ _ (passed _ counted.tabled)

  -- one block of boxes, at most 9 and 7 of the others
  box-blocks : blocks_of pic 1 ≡ 1
  box-blocks =
      let f = (fills-1 pic).few in
      let s = box-block pic in
      let b = the-rows.few-boxes in
      omega arith

  second_is : blocks_of pic 2 ≡ second
  second_is = (blocks-by-kind pic).1 ∙ sym counted.second-for

  third-is : blocks_of pic 3 ≡ third
  third-is = (blocks-by-kind pic).2 ∙ sym counted.third-for

  pub blocks-most : (second ≤ 9) × (third ≤ 7)
  blocks-most =
      let f = (fills-2 pic).few in
      let g = (fills-3 pic).few in
      let r = the-rows.few-rows in
      let a = the-arrows.few-arrows in
      (rw (← second_is) (omega arith), rw (← third-is) (omega arith))

  -- the length that the call names
  need-is : 512 * (1 + second + third) ≡ length (packed pic)
  need-is = sym (packed-length pic ∙ rw (box-blocks, second_is, third-is))

  -- what is asked to write each kind: its blocks, and room for them where there is room for all
  module _ (len : ℕ) (room : 512 * (1 + second + third) ≤ len) where
    pub boxes-asked : BlocksFit (box_kind pic) 1 len
    boxes-asked = record {
      few = let b = the-rows.few-boxes in omega arith;
      full = omega arith;
      numbers = omega arith;
      room = omega arith;
    }

    pub containments-asked : BlocksFit (containment_kind pic) second len
    containments-asked = record {
      few = the-rows.few-rows;
      full = rw second_is at (fills-2 pic).few;
      numbers = omega (arith, blocks-most.0);
      room = omega arith;
    }

    pub arrows-asked : BlocksFit (arrow_kind pic second) third len
    arrows-asked = record {
      few = let a = the-arrows.few-arrows in omega arith;
      full = rw third-is at (fills-3 pic).few;
      numbers = omega (arith, blocks-most.0, blocks-most.1);
      room = omega arith;
    }

  -- the blocks of each are those of the packed file
  boxes-made : joined (block_in (box_kind pic)) 1 ≡ kind_bytes pic 1
  boxes-made = kind-made pic (box_kind pic) (sym capacities.0) (sym (rows-by-kind pic).0) (sym (first-by-kind pic).0)
      (λ i. sym (record-by-kind pic i).0) 1 (sym box-blocks)

  containments-made : joined (block_in (containment_kind pic)) second ≡ kind_bytes pic 2
  containments-made = kind-made pic (containment_kind pic) (sym capacities.1) (sym (rows-by-kind pic).1)
      (sym ((first-by-kind pic).1 ∙ box-blocks)) (λ i. sym (record-by-kind pic i).1) second (sym second_is)

  arrows-made : joined (block_in (arrow_kind pic second)) third ≡ kind_bytes pic 3
  arrows-made = kind-made pic (arrow_kind pic second) (sym capacities.2) (sym (rows-by-kind pic).2)
      (sym ((first-by-kind pic).2 ∙ rw (box-blocks, second_is))) (λ i. sym (record-by-kind pic i).2) third (sym third-is)

  -- the kinds written one after the other
  pub file-made : (l₀ l₁ l₂ l₃ : List ℕ) → 512 * (1 + second + third) ≤ length l₀ → l₁ ≡ sets l₀ (512 * 0) (joined (block_in (box_kind pic)) 1)
      → l₂ ≡ sets l₁ (512 * 1) (joined (block_in (containment_kind pic)) second)
      → l₃ ≡ sets l₂ (512 * (1 + second)) (joined (block_in (arrow_kind pic second)) third)
      → l₃ ≡ written (packed pic) l₀
  file-made l₀ l₁ l₂ l₃ room p₁ p₂ p₃ =
      let p : l₁ ≡ sets l₀ (512 * 0) (kind_bytes pic 1) = rw boxes-made at p₁ in
      let q : l₂ ≡ sets l₁ (512 * 1) (kind_bytes pic 2) = rw containments-made at p₂ in
      let r : l₃ ≡ sets l₂ (512 * (1 + second)) (kind_bytes pic 3) = rw arrows-made at p₃ in
      let f = kind_bytes pic 1 in
      let g = kind_bytes pic 2 in
      let h = kind_bytes pic 3 in
      let lf : length f ≡ 512 * 1 = kind-length 1 (omega arith) (omega arith) pic ∙ rw box-blocks in
      let lg : length g ≡ 512 * second = kind-length 2 (omega arith) (omega arith) pic ∙ rw second_is in
      let lh : length h ≡ 512 * third = kind-length 3 (omega arith) (omega arith) pic ∙ rw third-is in
      let lfg : length (f ++ g) ≡ 512 * (1 + second) = simp length-append (omega arith) in
      let one : l₁ ≡ written f l₀ = p ∙ ap (λ (l : List ℕ). sets l 0 f) (sym (written_none l₀)) ∙ written-run [] f l₀ (omega arith) in
      let two : l₂ ≡ written (f ++ g) l₀ =
      q ∙ ap (λ (l : List ℕ). sets l (512 * 1) g) one ∙ (rw lf at (written-run f g l₀ (omega arith))) in
      let three : l₃ ≡ written (f ++ g ++ h) l₀ =
      r ∙ ap (λ (l : List ℕ). sets l (512 * (1 + second)) h) two ∙ (rw lfg at (written-run (f ++ g) h l₀ (omega arith))) in
      rw by-kinds (rw append_assoc at three)

-- refused by checks 1 to 7
pub by-tables : (pic : Picture) (file : List ℕ) (r : Refusal) → verdict_of (table_fault pic) ≡ Err r
    → (Err r ≡ pack_answer pic file) × (file ≡ file_after pic file)
by-tables pic file r e = pack-refused pic file r (fault-of-tables pic file r (refused _ r e))

module _ {pic : Picture} {second third : ℕ} (counted : Counted pic second third) (file : List ℕ) where
  by-nine : pack_fault pic file ≡ room_fault 8 (length file) (512 * (1 + second + third))
  by-nine = fault-of-room pic file (passed _ counted.tabled) ∙ rw (← need-is counted)

  -- refused by check 9
  pub by-room : (r : Refusal) → verdict_of (room_fault 8 (length file) (512 * (1 + second + third))) ≡ Err r
      → (Err r ≡ pack_answer pic file) × (file ≡ file_after pic file)
  by-room r e = pack-refused pic file r (by-nine ∙ refused _ r e)

  -- not refused
  module _ (fits : verdict_of (room_fault 8 (length file) (512 * (1 + second + third))) ≡ Ok tt) where
    pub room-there : 512 * (1 + second + third) ≤ length file
    room-there = room-passed 8 (length file) _ (passed _ fits)

    pub by-none : (end : List ℕ) → end ≡ written (packed pic) file
        → (Ok (512 * (1 + second + third)) ≡ pack_answer pic file) × (end ≡ file_after pic file)
    by-none end e =
        let done = pack-done pic file (by-nine ∙ passed _ fits) in
        (rw (need-is counted) done.0, e ∙ done.1)
