-- A place among the rows: the first, and what it says of a row. Assumes nothing.
use mathlib.Core.Path.{◌≡◌, refl, sym, ap, ◌∙◌}
use Rattle.base.proofs.Options.{past, stop}
use mathlib.Core.List.{List}
use Rattle.std.specs.Prelude.{Option, None as none, Some as some}
use Prim.Native.Nat.{ℕ, ◌+◌, ◌*◌, ◌/◌, ◌%◌, ◌<◌, ◌≤◌}
use native.Mathlib.Omega.{arith}
use native.Mathlib.Nat.{mul-le-mul}
use native.Mathlib.Numerals.{add-one}
use lib.ListN.{length, get_or, take}
use lib.Seq.{get_or-take}
use Rattle.base.specs.Search.{or_else, first}
use Rattle.base.proofs.FoldLaws.{fold_more, first-fold}
use Rattle.base.proofs.SearchLaws.{first-zero}
use Rattle.tables.specs.Rows.{Picture, user, file}
use Rattle.tables.specs.Refusals.{verdict_of}
use Rattle.std.specs.Prelude.{Result, Ok}
use Rattle.std.specs.Result.{result_and}
use Rattle.tables.specs.declared.Refusal.{Refusal}
use Rattle.tables.specs.Atoms.{atoms}
use Rattle.tables.proofs.AtomPlaces.{atoms-found, atom-there, atoms-most}
use Rattle.meaning.specs.Pairs.{files}
use Rattle.meaning.proofs.PairLaws.{place_in}
use Rattle.mode_sets.proofs.CallerLaws.{small-arrows}
use Rattle.listing.specs.PairRows.{used_modes, row_unclear, line_rows, row_mode, row_user, seen_before}
use Rattle.listing.specs.Steps.{InRange, Fits, Prepared, Stands}
use Rattle.listing.specs.declared.Place.{Place}
use Rattle.listing.proofs.ModeLaws.{few-modes}

pub stands-first : (pic : Picture) (modes : List ℕ) (used : ℕ) → take used modes ≡ used_modes pic.arrows
    → used ≡ length (used_modes pic.arrows)
    → Stands pic (record { modes = modes; used = used; row = 0; seen = Ok tt })
unfolding seen_before
stands-first pic modes used e n = record {
  modes-are = e;
  used-are = n;
  within = omega arith;
  seen_are = rw first-zero;
}

module _ {us : List ℕ} {p : Place} (w : Fits us p) (l : p.row < p.used * length us) where
  -- there is a mode and a user for the next row
  pub row-there : (p.row / length us < p.used) × (p.row % length us < length us)
  row-there = place_in p.used (length us) p.row l

  pub fits_next : (v : Result Unit Refusal) → Fits us (record { modes = p.modes; used = p.used; row = p.row + 1; seen = v })
  fits_next v = record { few-used = w.few-used; within = omega arith }

-- a place is not far
pub fits-small : {us : List ℕ} {p : Place} → Fits us p → length us ≤ 256 → p.row ≤ 2048
fits-small {us} {p} w hu =
    let few : p.used * length us ≤ 8 * 256 = mul-le-mul w.few-used hu in
    omega (arith, w.within)

-- ---- a picture and its tables

-- an atomic box is a box of the picture
pub atom-in : (pic : Picture) (side : ℕ) {xs : List ℕ} → xs ≡ atoms pic.boxes pic.rows side → (i : ℕ) → i < length xs
    → get_or xs i 0 < length pic.boxes
atom-in pic side e i l = rw e (atom-there pic.boxes pic.rows side _ (atoms-found pic.boxes pic.rows side i (rw e at l)))

pub prepared-in-range : {pic : Picture} {closure arrows us fs : List ℕ} → Prepared pic closure arrows us fs → InRange arrows us fs
prepared-in-range {pic} {closure} {arrows} {us} {fs} d =
    let few = d.drawn.rows-sound.few-boxes in
    record {
      small = rw d.arrows-are (small-arrows pic.boxes pic.arrows d.drawn.arrows-sound few);
      users-small = λ i l. omega (arith, atom-in pic user d.users-are i l);
      files-small = λ i l. omega (arith, atom-in pic file d.files-are i l);
      few-users = rw d.users-are (omega (arith, atoms-most pic.boxes pic.rows user));
      few-files = rw d.files-are (omega (arith, atoms-most pic.boxes pic.rows file));
    }

-- ---- a place in it

-- the first of two refusals
and-verdict : (a b : Option Refusal) → verdict_of (or_else a b) ≡ result_and (verdict_of a) (verdict_of b)
and-verdict none b = ap verdict_of (past none b refl)
and-verdict (some r) b = ap verdict_of (stop (some r) b refl)

-- the first unclear pair with those of one row more
first_step : (g : ℕ → Option Refusal) (n : ℕ) → verdict_of (first g (n + 1)) ≡ result_and (verdict_of (first g n)) (verdict_of (g n))
first_step g n =
    rw (add-one, first-fold, fold_more, ← first-fold) (and-verdict (first g n) (g n))

module _ {pic : Picture} {closure arrows us fs : List ℕ} (d : Prepared pic closure arrows us fs) {p : Place} (s : Stands pic p) where
  pub rows_are : line_rows pic ≡ p.used * length us
  unfolding line_rows
  rows_are = rw (d.users-are, s.used-are)

  pub stands-fit : Fits us p
  stands-fit = record { few-used = rw s.used-are (few-modes pic.arrows); within = omega (arith, s.within, rows_are) }

  module _ (l : p.row < line_rows pic) where
    -- the mode of the next row
    pub mode-is : get_or p.modes (p.row / length us) 0 ≡ row_mode pic p.row
    mode-is = sym (get_or-take p.used p.modes (p.row / length us) 0 (row-there stands-fit (rw rows_are at l)).0) ∙ rw (s.modes-are, d.users-are)

    -- the place after it
    pub stands-next : (v : Result Unit Refusal) → v ≡ verdict_of (row_unclear pic (row_mode pic p.row) (row_user pic p.row) (files pic))
        → Stands pic (record { modes = p.modes; used = p.used; row = p.row + 1; seen = result_and p.seen v })
    unfolding seen_before
    stands-next v e = record {
      modes-are = s.modes-are;
      used-are = s.used-are;
      within = omega arith;
      seen_are = rw (s.seen_are, e) (sym (first_step (λ k. row_unclear pic (row_mode pic k) (row_user pic k) (files pic)) p.row));
    }
