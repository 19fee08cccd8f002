-- `atoms::mark_outer` meets its contract: the marks say which boxes are outer boxes of the rows from k on. Assumes nothing.
use mathlib.Core.Path.{◌≡◌, refl}
use Prim.Native.Nat.{◌-◌, ◌<◌}
use native.Mathlib.Omega.{arith}
use borrow.Author.Rules.{rules}
use lib.ListN.{length, length-set}
use Rattle.tables.specs.Rows.{row_at}
use Rattle.tables.proofs.RowLaws.{rows_end}
use Rattle.atoms.proofs.MarkLaws.{marked}
use Rattle.atoms.proofs.mark_outer.Goals.{After-from-b}
use Rattle.atoms.proofs.mark_outer.Goals as goal

-- the row's outer box has a mark
there : (c : After-from-b) → c.from-b.result < length c.loop-k.marks
there c =
    let below : (row_at c.args.rows.now (c.loop-k.k - 1)).outer < length c.args.marks.now = c.requires.by_index (c.loop-k.k - 1) (omega arith) in
    rw (c.from-b.ensures, c.at.ensures) (omega arith)

pub loop-k-init : goal.loop-k-init
loop-k-init c =
    (search rules, refl, rw (rows_end c.args.rows.now c.requires.rows_len) c.requires.marks)

pub bounds-marks-b : goal.bounds-marks-b
bounds-marks-b c = there c

pub loop-k-preserved : goal.loop-k-preserved
loop-k-preserved c = (
  search rules,
  simp length-set c.loop-k.invariant.1,
  marked c.args.rows.now c.loop-k.k (omega arith) (omega arith) c.loop-k.marks c.from-b.result
      (rw (c.from-b.ensures, c.at.ensures)) (there c) c.loop-k.invariant.2,
)

pub returns : goal.returns
returns c =
    let e : c.loop-k.k ≡ 0 = omega arith in
    rw e at c.loop-k.invariant.2
