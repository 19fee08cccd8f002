-- What holds of tables that pass checks 1 to 7. Assumes nothing.
use mathlib.Core.Path.{◌≡◌, refl, sym, ◌∙◌}
use mathlib.Core.Bool.{Bool, true, false, not, ◌&&◌, ◌||◌}
use mathlib.Core.List.{List}
use Rattle.std.specs.Prelude.{Option, None as none, Some as some}
use Prim.Native.Nat.{ℕ, ◌<◌, ◌≤◌, ◌%◌}
use borrow.Author.Tests.{le-ltb}
use lib.Dec.{T, eqb, ltb, leb, not_T, eqb→eq, nltb→le, nleb→lt}
use lib.ListN.{length, get_or}
use Rattle.base.specs.Search.{or_else, given}
use Rattle.tables.specs.Rows.{picture, user, file, side_of, on_side, row_count, row_at, arrow_count, arrow_at}
use Rattle.tables.specs.declared.Refusal.TheVariants.{Ragged, TooMany, BadByte, NoBox, AcrossSides, WrongEnds, WrongMode, TooShort}
use Rattle.tables.specs.Faults.{ragged_fault, count_fault, byte_fault, names_no_box, across_sides, wrong_ends, wrong_mode, row_fault, table_fault, room_fault}
use Rattle.tables.specs.Steps.{SoundRows, SoundArrows}
use Rattle.tables.specs.declared.Refusal.{Refusal}
use Rattle.tables.specs.declared.Containment.{Containment}
use Rattle.base.proofs.Tests.{and_T, T-or₁, T-or₂, not-false, false-not}
use Rattle.base.proofs.SearchLaws.{first-none, given-none, given-false, some-none}
use Rattle.base.proofs.Options.{past, stop}

-- neither of two checks found a fault
pub both-none : {A : Type 0} (a b : Option A) → or_else a b ≡ none → (a ≡ none) × (b ≡ none)
both-none none b e = (refl, sym (past none b refl) ∙ e)
both-none (some x) b e = absurd (some-none (sym (stop (some x) b refl) ∙ e))

pub not-not : (b : Bool) → (T (not b) → ⊥) → T b
not-not true h = tt
not-not false h = h tt

-- a number that is not above the most
at_most : (most n : ℕ) (r : Refusal) → given (ltb most n) r ≡ none → n ≤ most
at_most most n r e = nltb→le most n (not_T (ltb most n) (given-none (ltb most n) r e))

-- where check 9 passes, the buffer has room
pub room-passed : (buffer have need : ℕ) → room_fault buffer have need ≡ none → need ≤ have
unfolding room_fault
room-passed buffer have need e = at_most have need (TooShort buffer need) e

-- and where it has room, check 9 passes
pub room-enough : (buffer have need : ℕ) → need ≤ have → room_fault buffer have need ≡ none
unfolding room_fault
room-enough buffer have need h = given-false _ _ (le-ltb have need h)

-- where check 2 passes, the tables are short
pub counts-passed : (boxes rows arrows : ℕ) → count_fault boxes rows arrows ≡ none → (boxes ≤ 256) × (rows ≤ 1024) × (arrows ≤ 512)
unfolding count_fault
counts-passed boxes rows arrows e =
    let b = both-none (given (ltb 256 boxes) (TooMany 0 boxes)) _ e in
    let r = both-none (given (ltb 1024 rows) (TooMany 1 rows)) _ b.1 in
    (at_most 256 boxes _ b.0, at_most 1024 rows _ r.0, at_most 512 arrows _ r.1)

-- and where they are short, check 2 passes
pub counts-few : (boxes rows arrows : ℕ) → boxes ≤ 256 → rows ≤ 1024 → arrows ≤ 512 → count_fault boxes rows arrows ≡ none
unfolding count_fault
counts-few boxes rows arrows b r a =
    past _ _ (given-false _ _ (le-ltb 256 boxes b)) ∙ past _ _ (given-false _ _ (le-ltb 1024 rows r)) ∙ given-false _ _ (le-ltb 512 arrows a)

whole-rows : (n width : ℕ) (r : Refusal) → given (not (eqb (n % width) 0)) r ≡ none → n % width ≡ 0
whole-rows n width r e = eqb→eq (n % width) 0 (not-not (eqb (n % width) 0) (given-none (not (eqb (n % width) 0)) r e))

-- no row fails
row_room : (refusal : ℕ → Refusal) (bad : ℕ → Bool) (count : ℕ) → row_fault refusal bad count ≡ none → (k : ℕ) → k < count → T (bad k) → ⊥
unfolding row_fault
row_room refusal bad count e k l = given-none (bad k) (refusal k) (first-none (λ j. given (bad j) (refusal j)) count e k l)

-- a row that check 4 passes names boxes that are there
pub boxes-there : (boxes : List ℕ) (r : Containment) → names_no_box boxes r ≡ false → (r.outer < length boxes) × (r.inner < length boxes)
unfolding names_no_box
boxes-there boxes r e =
    let o = leb (length boxes) r.outer in
    let i = leb (length boxes) r.inner in
    let none = false-not (o || i) e in (
      nleb→lt (length boxes) r.outer (not_T o (λ t. none (T-or₁ o i t))),
      nleb→lt (length boxes) r.inner (not_T i (λ t. none (T-or₂ o i t))),
    )

module _ (boxes rows arrows : List ℕ) (e : table_fault (picture boxes rows arrows) ≡ none) where
  Checks : Type 0
  Checks =
      (ragged_fault (length rows) (length arrows) ≡ none)
      × (count_fault (length boxes) (row_count rows) (arrow_count arrows) ≡ none)
      × (byte_fault boxes ≡ none)
      × (row_fault NoBox (λ k. names_no_box boxes (row_at rows k)) (row_count rows) ≡ none)
      × (row_fault AcrossSides (λ k. across_sides boxes (row_at rows k)) (row_count rows) ≡ none)
      × (row_fault WrongEnds (λ k. wrong_ends boxes (arrow_at arrows k)) (arrow_count arrows) ≡ none)
      × (row_fault WrongMode (λ k. wrong_mode (arrow_at arrows k)) (arrow_count arrows) ≡ none)

  checks : Checks
  unfolding table_fault Checks
  checks =
      let c1 = both-none (ragged_fault (length rows) (length arrows)) _ e in
      let c2 = both-none (count_fault (length boxes) (row_count rows) (arrow_count arrows)) _ c1.1 in
      let c3 = both-none (byte_fault boxes) _ c2.1 in
      let c4 = both-none (row_fault NoBox (λ k. names_no_box boxes (row_at rows k)) (row_count rows)) _ c3.1 in
      let c5 = both-none (row_fault AcrossSides (λ k. across_sides boxes (row_at rows k)) (row_count rows)) _ c4.1 in
      let c6 = both-none (row_fault WrongEnds (λ k. wrong_ends boxes (arrow_at arrows k)) (arrow_count arrows)) _ c5.1 in
      (c1.0, c2.0, c3.0, c4.0, c5.0, c6.0, c6.1)

  rag : (length rows % 2 ≡ 0) × (length arrows % 4 ≡ 0)
  unfolding ragged_fault Checks
  rag =
      let r = both-none (given (not (eqb (length rows % 2) 0)) (Ragged 1 (length rows))) _ checks.0 in
      (whole-rows (length rows) 2 _ r.0, whole-rows (length arrows) 4 _ r.1)

  few : (length boxes ≤ 256) × (row_count rows ≤ 1024) × (arrow_count arrows ≤ 512)
  unfolding Checks
  few = counts-passed (length boxes) (row_count rows) (arrow_count arrows) checks.1

  bytes : (b : ℕ) → b < length boxes → get_or boxes b 0 ≤ 3
  unfolding byte_fault Checks
  bytes b l = at_most 3 (get_or boxes b 0) (BadByte b) (first-none (λ b. given (ltb 3 (get_or boxes b 0)) (BadByte b)) (length boxes) checks.2 b l)

  named : (k : ℕ) → k < row_count rows → names_no_box boxes (row_at rows k) ≡ false
  unfolding Checks
  named k l = not-false _ (row_room NoBox (λ k. names_no_box boxes (row_at rows k)) (row_count rows) checks.3 k l)

  there : (k : ℕ) → k < row_count rows → ((row_at rows k).outer < length boxes) × ((row_at rows k).inner < length boxes)
  there k l = boxes-there boxes (row_at rows k) (named k l)

  one_side : (k : ℕ) → k < row_count rows → side_of (get_or boxes (row_at rows k).outer 0) ≡ side_of (get_or boxes (row_at rows k).inner 0)
  unfolding across_sides Checks
  one_side k l =
      let o = side_of (get_or boxes (row_at rows k).outer 0) in
      let i = side_of (get_or boxes (row_at rows k).inner 0) in
      eqb→eq o i (not-not (eqb o i) (λ t. row_room AcrossSides (λ k. across_sides boxes (row_at rows k)) (row_count rows) checks.4 k l (rw (named k l) t)))

  ends : (k : ℕ) → k < arrow_count arrows → T (on_side boxes user (arrow_at arrows k).tail) × T (on_side boxes file (arrow_at arrows k).head)
  unfolding wrong_ends Checks
  ends k l =
      let t = on_side boxes user (arrow_at arrows k).tail in
      let h = on_side boxes file (arrow_at arrows k).head in
      and_T t h (not-not (t && h) (row_room WrongEnds (λ k. wrong_ends boxes (arrow_at arrows k)) (arrow_count arrows) checks.5 k l))

  modes : (k : ℕ) → k < arrow_count arrows → ((arrow_at arrows k).mode ≤ 7) × ((arrow_at arrows k).sign ≤ 1)
  unfolding wrong_mode Checks
  modes k l =
      let m = ltb 7 (arrow_at arrows k).mode in
      let s = ltb 1 (arrow_at arrows k).sign in
      let n = row_room WrongMode (λ k. wrong_mode (arrow_at arrows k)) (arrow_count arrows) checks.6 k l in
      (nltb→le 7 (arrow_at arrows k).mode (not_T m (λ t. n (T-or₁ m s t))), nltb→le 1 (arrow_at arrows k).sign (not_T s (λ t. n (T-or₂ m s t))))

  pub sound-rows : SoundRows boxes rows
  sound-rows = record {
    few-boxes = few.0;
    whole = rag.0;
    few-rows = few.1;
    bytes = bytes;
    outer-there = λ k l. (there k l).0;
    inner-there = λ k l. (there k l).1;
    one_side = one_side;
  }

  pub sound-arrows : SoundArrows boxes arrows
  sound-arrows = record {
    whole = rag.1;
    few-arrows = few.2;
    tail-user = λ k l. (ends k l).0;
    head-file = λ k l. (ends k l).1;
    mode-most = λ k l. (modes k l).0;
    sign-most = λ k l. (modes k l).1;
  }
