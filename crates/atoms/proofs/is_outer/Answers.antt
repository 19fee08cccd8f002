-- `atoms::is_outer` meets its contract: found says whether a row from k on has the outer box b. Assumes nothing.
use mathlib.Core.Path.{◌≡◌}
use Prim.Native.Nat.{◌-◌}
use native.Mathlib.Omega.{arith}
use borrow.Author.Tests.{eq-eqb, ne_eqb}
use borrow.Author.Rules.{rules}
use Rattle.tables.specs.Rows.{row_at}
use Rattle.tables.proofs.RowLaws.{rows_end, outer-none}
use Rattle.atoms.proofs.MarkLaws.{outer-from}
use Rattle.atoms.proofs.is_outer.Goals as goal

pub loop-k-init : goal.loop-k-init
loop-k-init c = let a = c.args in
    (search rules, rw (rows_end a.rows.now c.requires, outer-none))

pub loop-k-preserved-then-from-b : goal.loop-k-preserved-then-from-b
loop-k-preserved-then-from-b c =
    let a = c.args in
    let o : c.from.result ≡ (row_at a.rows.now (c.loop-k.k - 1)).outer = rw (c.from.ensures, c.at.ensures) in
    (search rules, rw (outer-from a.rows.now c.loop-k.k (omega arith) (omega arith) a.b, ← o, eq-eqb _ _ c.if-from-b.true))

pub loop-k-preserved : goal.loop-k-preserved
loop-k-preserved c =
    let a = c.args in
    let o : c.from.result ≡ (row_at a.rows.now (c.loop-k.k - 1)).outer = rw (c.from.ensures, c.at.ensures) in
    (search rules, rw (outer-from a.rows.now c.loop-k.k (omega arith) (omega arith) a.b, ← o, ne_eqb _ _ c.if-from-b.false) c.loop-k.invariant.1)

pub returns : goal.returns
returns c =
    let e : c.loop-k.k ≡ 0 = omega arith in
    rw e at c.loop-k.invariant.1
