-- `containment::closing::mark_rows` meets its contract: the sets say which boxes the rows from k on join. Assumes nothing.
use mathlib.Core.Path.{◌≡◌}
use native.Mathlib.Omega.{arith}
use borrow.Author.Rules.{rules}
use Rattle.tables.proofs.RowLaws.{rows_end}
use Rattle.containment.proofs.RowBoxes.{RowBoxes, row-boxes}
use Rattle.containment.proofs.ClosingLaws.{marked-none, mark-row}
use Rattle.containment.proofs.closing.mark_rows.Goals.{After-from-i}
use Rattle.containment.proofs.closing.mark_rows.Goals as goal

-- the row's boxes
module _ (c : After-from-i) where
  row : RowBoxes 256 c.args.rows.now c.loop-k.k c.from-o.result c.from-i.result
  row =
      row-boxes c.requires.rows_below (omega arith) (omega arith) c.at-row.ensures c.from-o.ensures c.from-i.ensures

pub loop-k-init : goal.loop-k-init
loop-k-init c =
    (search rules, rw (rows_end c.args.rows.now c.requires.rows_below.whole) (marked-none c.args.closure.now c.requires.closure_value))

pub add-requires : goal.add-requires
add-requires c =
    let len = c.loop-k.invariant.1.len in
    let o = (row (goal.at.add-requires c).After-from-i).o-below in
    let i = (row (goal.at.add-requires c).After-from-i).i-below in
    (omega arith, omega arith)

pub add-requires-in-loop-k : goal.add-requires-in-loop-k
add-requires-in-loop-k c =
    let len = c.loop-k.invariant.1.len in
    let len₁ = c.add.ensures.len in
    let o = (row (goal.at.add-requires-in-loop-k c).After-from-i).o-below in
    let i = (row (goal.at.add-requires-in-loop-k c).After-from-i).i-below in
    (omega arith, omega arith)

pub loop-k-preserved : goal.loop-k-preserved
loop-k-preserved c = (
  search rules,
  mark-row (row (goal.at.loop-k-preserved c).After-from-i) c.add.ensures c.add-in-loop-k.ensures c.loop-k.invariant.1,
)

pub returns : goal.returns
returns c =
    let e : c.loop-k.k ≡ 0 = omega arith in
    rw e at c.loop-k.invariant.1
