-- `scratch::filling::mark_direct` meets its contract: 2 stands at the rows from k on. Assumes nothing.
use mathlib.Core.Path.{◌≡◌, refl}
use Prim.Native.Nat.{◌+◌, ◌*◌, ◌<◌}
use native.Mathlib.Omega.{arith}
use borrow.Author.Rules.{rules}
use lib.ListN.{length}
use Rattle.base.proofs.Index.{in_table}
use Rattle.tables.proofs.RowLaws.{rows_end}
use Rattle.scratch.specs.Steps.{over}
use Rattle.containment.proofs.ContainsLaws.{direct-none}
use Rattle.containment.proofs.RowBoxes.{RowBoxes, row-boxes}
use Rattle.scratch.proofs.MarkLaws.{mark-turn}
use Rattle.scratch.proofs.filling.mark_direct.Goals.{After-from-i}
use Rattle.scratch.proofs.filling.mark_direct.Goals as goal

-- the row's boxes are below n, and so their byte is there
module _ (c : After-from-i) where
  row : RowBoxes c.args.n c.args.rows.now c.loop-k.k c.from-o.result c.from-i.result
  row =
      row-boxes c.requires.0 (omega arith) (omega arith) c.at-row.ensures c.from-o.ensures c.from-i.ensures

  byte : c.from-o.result * c.args.n + c.from-i.result < length c.loop-k.scratch
  byte = omega (arith, in_table c.args.n c.args.n c.from-o.result c.from-i.result row.o-below row.i-below)

pub loop-k-init : goal.loop-k-init
unfolding over
loop-k-init c =
    (search rules, (λ g z a b la lb. rw (rows_end c.args.rows.now c.requires.0.whole, direct-none) (z a b la lb), record { len = refl; rest = λ p l. refl }))

pub overflow_mul-scratch : goal.overflow_mul-scratch
overflow_mul-scratch c = omega (arith, byte c)

pub overflow_add-scratch : goal.overflow_add-scratch
overflow_add-scratch c = omega (arith, byte c)

pub bounds-scratch-o : goal.bounds-scratch-o
bounds-scratch-o c = omega (arith, byte c)

pub loop-k-preserved : goal.loop-k-preserved
loop-k-preserved c =
    let a = c.args in (
      search rules,
      mark-turn 2 a.scratch.now c.loop-k.scratch (row c) (omega arith) c.loop-k.invariant.1,
    )

pub returns : goal.returns
returns c =
    let e : c.loop-k.k ≡ 0 = omega arith in let w = rw e at c.loop-k.invariant.1 in
    record {
      by_index = w.0;
      same_from = w.1;
    }
