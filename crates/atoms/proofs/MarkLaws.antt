-- How the outer boxes of the rows are found and marked, from the last row to the first. Assumes nothing.
use mathlib.Core.Path.{◌≡◌, refl, sym, ◌∙◌}
use mathlib.Core.Bool.{◌||◌}
use mathlib.Core.List.{List}
use Prim.Native.Nat.{ℕ, ◌*◌, ◌-◌, ◌<◌, ◌≤◌}
use native.Mathlib.Decide.{ℕ_discrete}
use native.Mathlib.Omega.{arith}
use borrow.Author.Tests.{eq-eqb, ne_eqb}
use lib.Dec.{eqb}
use lib.ListN.{length, get_or, set, drop, length-set}
use lib.Seq.{get_or-set_same, get_or-set_other}
use Rattle.base.specs.Search.{select}
use Rattle.base.specs.Steps.{bit}
use Rattle.base.proofs.Bits.{bit_is, bit-none}
use Rattle.base.proofs.SelectLaws.{select-alike}
use Rattle.tables.specs.Rows.{row_count, row_at}
use Rattle.tables.specs.Atoms.{outer, atom, atoms}
use Rattle.tables.proofs.RowLaws.{rows-from, outer-more}
use Rattle.tables.proofs.AtomPlaces.{atom-is, atoms-is}
use Rattle.atoms.specs.Steps.{Marks, unmarked}

module _ (rows : List ℕ) (k : ℕ) (pos : 0 < k) (h : k ≤ row_count rows) where
  pub outer-from : (b : ℕ) → outer (drop (2 * (k - 1)) rows) b ≡ (eqb (row_at rows (k - 1)).outer b || outer (drop (2 * k) rows) b)
  outer-from b = rw (rows-from rows k pos h, outer-more)

  -- the outer box of row k - 1 is marked
  pub marked : (marks : List ℕ) (o : ℕ) → o ≡ (row_at rows (k - 1)).outer → o < length marks
      → Marks (outer (drop (2 * k) rows)) marks → Marks (outer (drop (2 * (k - 1)) rows)) (set marks o 1)
  marked marks o e l m b lb = rw (outer-from b, ← e) (go (ℕ_discrete o b))
    where
      go : Dec (o ≡ b) → get_or (set marks o 1) b 0 ≡ bit (eqb o b || outer (drop (2 * k) rows) b)
      go (yes i) = rw (← i, eq-eqb o o refl, bit_is) (get_or-set_same marks o 1 0 l)
      go (no i) = rw (ne_eqb o b i) (get_or-set_other marks o b 1 0 (λ j. i (sym j)) ∙ m b (rw length-set at lb))

-- where the marks are those of the outer boxes, the unmarked boxes are the atomic ones
pub unmarked-atoms : (boxes rows marks : List ℕ) (side : ℕ) → Marks (outer rows) marks → length boxes ≤ length marks
    → select (unmarked boxes side marks) (length boxes) ≡ atoms boxes rows side
unfolding unmarked
unmarked-atoms boxes rows marks side m h =
    select-alike (unmarked boxes side marks) (atom boxes rows side) (length boxes)
    (λ b l. rw (m b (omega arith), bit-none) (sym (atom-is boxes rows side b)))
    ∙ sym (atoms-is boxes rows side)
