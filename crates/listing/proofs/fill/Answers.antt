-- `listing::fill` meets its contract: the buffer holds the rows up to the place, and as long as there is room for one more, one more is
-- put. Assumes nothing.
use mathlib.Core.Path.{◌≡◌, refl, ◌∙◌}
use mathlib.Core.Logic.{⊎_elim}
use mathlib.Core.List.{List}
use Prim.Native.Nat.{ℕ, ◌+◌, ◌*◌, ◌/◌, ◌%◌, ◌<◌, ◌≤◌}
use native.Mathlib.Omega.{arith}
use native.Mathlib.Nat.{eq-or-lt_of_le}
use borrow.Author.Rules.{rules}
use lib.ListN.{length}
use Rattle.tables.specs.Rows.{user}
use Rattle.listing.specs.PairRows.{line_rows}
use Rattle.listing.specs.Steps.{Filled}
use Rattle.listing.proofs.ChunkLaws.{filling-none, filling-more, filling-done}
use Rattle.listing.proofs.StandLaws.{row-there, fits_next, rows_are, atom-in}
use Rattle.listing.proofs.fill.Goals.{Then-pen-most, then-loop-place-test+else-pen-most, else-loop-place-test}
use Rattle.listing.proofs.fill.Goals as goal

-- there is a mode and a user for the row
there : (c : Then-pen-most) → let p = c.loop-place.place in
    let us = c.args.users.now in
    (p.row < p.used * length us) × (p.row / length us < 8) × (p.row % length us < length us) × (length us ≤ 256)
there c =
    let inv = c.loop-place.invariant in
    let l : c.loop-place.place.row < c.loop-place.place.used * length c.args.users.now =
    omega (arith, inv.1, c.loop-place-test.true) in
    let r = row-there inv.0 l in
    (l, omega (arith, r.0, inv.0.few-used), r.1, c.requires.in_range.0.few-users)

-- and room for it
room : (c : Then-pen-most)
    → c.loop-place.pen.at + length c.args.files.now * 111
    ≤ length c.args.out.now
room c =
    omega (arith, c.requires.files_in_bounds, c.if-pen-most.true)

pub row_count-count-requires : goal.row_count-count-requires
row_count-count-requires c =
    (c.requires.in_range.0.few-users, c.requires.in_range.1.few-used)

pub loop-place-init : goal.loop-place-init
loop-place-init c =
    (c.requires.in_range.1, c.row_count-count.ensures, refl, refl, λ pic d s. filling-none s)

pub loop-place-preserved : goal.loop-place-preserved
loop-place-preserved c =
    let inv = c.loop-place.invariant in
    let put = c.put_row-unclear.ensures in
    let here = (goal.at.loop-place-preserved c).Then-pen-most in
    rw c.after-place.ensures (
      fits_next inv.0 (there here).0 _,
      inv.1,
      put.out_len_unchanged ∙ inv.2,
      put.same_buffer ∙ inv.3,
      λ pic d s.
          let w = inv.4 pic d s in
          let row = put.row_put pic d.drawn d.arrows-are (atom-in pic user d.users-are _ (there here).2) d.files-are in
          filling-more d w (rw (rows_are d w.stands) (there here).0) refl refl row (room here),
    )

pub returns : goal.returns
returns c = λ pic d s.
    let l = c.loop-place in
    let w = l.invariant.4 pic d s in
    let some : c.args.from.row < line_rows pic → c.args.from.row < l.place.row =
    elim c.loop-place-test.branch [
      | then-loop-place-test+else-pen-most v ↦
          λ h. ⊎_elim (λ e. absurd (omega (arith, w.begun e, v.if-pen-most.false, c.requires.files_in_bounds))) (λ m. m) (eq-or-lt_of_le w.onward)
      | else-loop-place-test v ↦ λ h. omega (arith, rows_are d w.stands, l.invariant.1, v.loop-place-test.false)
    ] in
    let at_end : (out : List ℕ) → out ≡ l.pen.out.now → Filled pic c.args.from c.args.out.now out (record { bytes = l.pen.at; next = l.place }) =
    λ out e. rw e (filling-done w some) in
    at_end _ (search rules)
