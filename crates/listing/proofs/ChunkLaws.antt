-- Whole rows one after the other in a buffer. Assumes nothing.
use mathlib.Core.Path.{◌≡◌, refl, ◌∙◌}
use mathlib.Core.List.{List, [], ◌++◌}
use Prim.Native.Nat.{ℕ, ◌+◌, ◌-◌, ◌*◌, ◌/◌, ◌%◌, ◌<◌, ◌≤◌}
use native.Mathlib.Omega.{arith}
use lib.ListN.{length, get_or}
use Rattle.tables.specs.Rows.{Picture}
use Rattle.std.specs.Result.{result_and}
use Rattle.meaning.specs.Pairs.{files}
use Rattle.blocks.proofs.JoinedLaws.{joined-none, joined-more}
use Rattle.lines.specs.Steps.{Put}
use Rattle.lines.proofs.PutLaws.{put-none, put-more, at-start}
use Rattle.listing.specs.PairRows.{row_text, line_rows, row_mode, row_user, rows_from}
use Rattle.listing.specs.Steps.{Prepared, Stands, RowPut, Filled}
use Rattle.listing.specs.declared.Place.{Place}
use Rattle.std.specs.Prelude.{Result}
use Rattle.tables.specs.declared.Refusal.{Refusal}
use Rattle.lines.specs.declared.pen.Pen.{Pen}
use Rattle.listing.proofs.StandLaws.{mode-is, stands-next}

module _ (pic : Picture) (from : ℕ) where
  pub rows_none : rows_from pic from 0 ≡ []
  unfolding rows_from
  rows_none = joined-none (λ k. row_text pic (row_mode pic (from + k)) (row_user pic (from + k)) (files pic) (length (files pic)))

  rows_more : (n : ℕ) → rows_from pic from (n + 1)
      ≡ rows_from pic from n ++ row_text pic (row_mode pic (from + n)) (row_user pic (from + n)) (files pic) (length (files pic))
  unfolding rows_from
  rows_more n = joined-more (λ k. row_text pic (row_mode pic (from + k)) (row_user pic (from + k)) (files pic) (length (files pic))) n

-- the buffer holds the rows from a place up to another, and the next byte goes to `at`
pub record Filling (pic : Picture) (from : Place) (old out : List ℕ) (at : ℕ) (p : Place) : Type 0 where
  pub stands : Stands pic p
  pub onward : from.row ≤ p.row
  pub put : Put old 0 (rows_from pic from.row (p.row - from.row)) (length old) out at
  pub begun : from.row ≡ p.row → at ≡ 0

module _ {pic : Picture} {old : List ℕ} where
  pub filling-none : {p : Place} → Stands pic p → Filling pic p old old 0 p
  filling-none {p} s =
      let z : p.row - p.row ≡ 0 = omega arith in
      record { stands = s; onward = omega arith; put = rw (z, rows_none pic p.row) (put-none old (length old)); begun = λ h. refl }

  -- one row more, where there is room for it
  module _ {closure arrows us fs : List ℕ} (d : Prepared pic closure arrows us fs) {from p : Place} {pen next : Pen}
      (w : Filling pic from old pen.out.now pen.at p) (l : p.row < line_rows pic) {m u : ℕ} {told : Result Unit Refusal}
      (em : m ≡ get_or p.modes (p.row / length us) 0) (eu : u ≡ get_or us (p.row % length us) 0) (r : RowPut pic m u fs pen next told) where
    row_is : RowPut pic (row_mode pic p.row) (row_user pic p.row) (files pic) pen next told
    row_is =
        let e : m ≡ row_mode pic p.row = em ∙ mode-is d w.stands l in
        let f : u ≡ row_user pic p.row = eu ∙ rw d.users-are in
        rw (e, f, d.files-are) at r

    pub filling-more : pen.at + length fs * 111 ≤ length old
        → Filling pic from old next.out.now next.at
        (record { modes = p.modes; used = p.used; row = p.row + 1; seen = result_and p.seen told })
    filling-more room =
        let n : p.row + 1 - from.row ≡ p.row - from.row + 1 = omega (arith, w.onward) in
        let here : from.row + (p.row - from.row) ≡ p.row = omega (arith, w.onward) in
        record {
          stands = stands-next d w.stands l told row_is.unclear-is;
          onward = omega (arith, w.onward);
          put = rw (n, rows_more pic from.row (p.row - from.row), here) (put-more w.put row_is.put (rw d.files-are at room));
          begun = λ z. absurd (omega (arith, w.onward));
        }

  -- the loop ends after the last row, or where the buffer is full
  pub filling-done : {from p : Place} {out : List ℕ} {at : ℕ} → Filling pic from old out at p
      → (from.row < line_rows pic → from.row < p.row) → Filled pic from old out (record { bytes = at; next = p })
  filling-done {from} {p} {out} {at} w some =
      record { stands = w.stands; onward = w.onward; holds = at-start old out _ (length old) at (omega arith) w.put; some-row = some }
