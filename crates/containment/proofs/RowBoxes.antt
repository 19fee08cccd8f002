-- The boxes of the row that a loop from the last row to the first reads. Assumes nothing.
use mathlib.Core.Path.{◌≡◌, ap, ◌∙◌}
use mathlib.Core.List.{List}
use Prim.Native.Nat.{ℕ, ◌-◌, ◌<◌, ◌≤◌}
use native.Mathlib.Omega.{arith}
use Rattle.tables.specs.Rows.{row_count, row_at}
use Rattle.tables.specs.declared.Containment.{Containment}
use Rattle.containment.specs.Steps.{RowsBelow}

-- o and i are the boxes of row k - 1, and are below n
pub record RowBoxes (n : ℕ) (rows : List ℕ) (k o i : ℕ) : Type 0 where
  pub above : 0 < k
  pub most : k ≤ row_count rows
  pub o_is : o ≡ (row_at rows (k - 1)).outer
  pub i-is : i ≡ (row_at rows (k - 1)).inner
  pub o-below : o < n
  pub i-below : i < n

pub row-boxes : {n : ℕ} {rows : List ℕ} {k o i : ℕ} {r : Containment} → RowsBelow n rows → 0 < k → k ≤ row_count rows
    → r ≡ row_at rows (k - 1) → o ≡ r.outer → i ≡ r.inner → RowBoxes n rows k o i
row-boxes {k = k} below above most is eo ei =
    let o_is = eo ∙ ap (λ (r : Containment). r.outer) is in
    let i-is = ei ∙ ap (λ (r : Containment). r.inner) is in
    record {
      above = above;
      most = most;
      o_is = o_is;
      i-is = i-is;
      o-below = omega (arith, o_is, below.outer_below (k - 1) (omega arith));
      i-below = omega (arith, i-is, below.inner_below (k - 1) (omega arith));
    }
