-- Text put into a buffer, piece after piece. Assumes nothing.
use mathlib.Core.Path.{◌≡◌, refl, sym, ap, ◌∙◌}
use mathlib.Core.List.{List, [], ◌∷◌, ◌++◌, append_assoc}
use Prim.Native.Nat.{ℕ, ◌+◌, ◌-◌, ◌≤◌}
use native.Mathlib.Omega.{arith}
use lib.ListN.{length, length-append}
use lib.Seq.{sets, sets-eq, length-sets, length-take-le, drop-drop}
use borrow.Rule.Slice.PartMut.{put_mid}
use Rattle.base.specs.Buffers.{written}
use Rattle.base.proofs.BufferLaws.{written_none, written-run}
use Rattle.blocks.proofs.Placing.{sets_more}
use Rattle.meaning.specs.declared.Entry.{Entry}
use Rattle.meaning.specs.declared.Entry.TheVariants.{Granted, Denied, Default, Unclear}
use Rattle.lines.specs.Text.{text, line}
use Rattle.lines.specs.Lines.{answer_fields}
use Rattle.lines.specs.Steps.{Put, Holds}

-- one piece after the other
pub chain : {old mid new a b : List ℕ} {at x y m k : ℕ} → Put old at a m mid x → Put mid x b k new y → Put old at (a ++ b) (m + k) new y
chain {old} {mid} {new} {a} {b} {at} {x} {y} p q = record {
  placed = q.placed ∙ rw (p.placed, p.ends) (sets_more old at a b);
  ends = rw length-append (omega arith);
  short = rw length-append (omega arith);
  same = q.same ∙ p.same;
}

-- the same with a higher bound
pub roomier : {old new a : List ℕ} {at y m : ℕ} (k : ℕ) → m ≤ k → Put old at a m new y → Put old at a k new y
roomier k h p = record { placed = p.placed; ends = p.ends; short = omega arith; same = p.same }

-- a copy of the text into the places from `at` on
pub put-copy : (old s copy : List ℕ) (at : ℕ) → at + length s ≤ length old → copy ≡ s
    → Put old at s (length s) (put_mid at (at + length s - at) old copy) (at + length s)
put-copy old s copy at h e =
    let k : at + length s - at ≡ length s = omega arith in
    let placed : put_mid at (length s) old copy ≡ sets old at s = rw e (rw (sets-eq s old at h, drop-drop, append_assoc) refl) in
    rw k (record { placed = placed; ends = refl; short = omega arith; same = ap length placed ∙ length-sets old at s })

-- at the start of the buffer
pub at-start : (old new a : List ℕ) (m y : ℕ) → m ≤ length old → Put old 0 a m new y → Holds a old new y
at-start old new a m y h p =
    let e : y ≡ length a = omega arith in
    let fits : y ≤ length new = omega arith in
    let there : sets old 0 a ≡ written a old = rw (written_none old) at (written-run [] a old (omega arith)) in
    record { bytes-are = e; written-are = p.placed ∙ there; counted = (fits, sym (length-take-le y new fits)) }

-- nothing put
pub put-none : (old : List ℕ) (m : ℕ) → Put old 0 [] m old 0
put-none old m = record { placed = refl; ends = refl; short = omega arith; same = refl }

-- one piece more at the end of those put from the start on, where there is room for it
pub put-more : {old mid new a b : List ℕ} {m k x y : ℕ} → Put old 0 a m mid x → Put mid x b k new y → x + k ≤ length old
    → Put old 0 (a ++ b) (length old) new y
put-more {old} {mid} {new} {a} {b} p q h = record {
  placed = (chain p q).placed;
  ends = (chain p q).ends;
  short = rw length-append (omega arith);
  same = q.same ∙ p.same;
}

-- a field before those of an answer
pub line-answer : (field : List ℕ) (e : Entry) → line (field ∷ answer_fields e) ≡ field ++ (text " " ++ line (answer_fields e))
unfolding line answer_fields
line-answer field (Granted k) = refl
line-answer field (Denied k) = refl
line-answer field Default = refl
line-answer field (Unclear p n) = refl
