-- `bit_rows::put_rows` meets its contract: the rows before a are written. Assumes nothing.
use mathlib.Core.Path.{◌≡◌}
use native.Mathlib.Omega.{arith}
use Rattle.base.proofs.Index.{row_step}
use Rattle.bit_rows.specs.Bits.{row_width}
use Rattle.bit_rows.proofs.NumberLaws.{width-most}
use Rattle.bit_rows.proofs.RowLaws.{filled_none, filled_more, filled-all}
use Rattle.bit_rows.proofs.put_rows.Goals.{After-row_width-w}
use Rattle.bit_rows.proofs.put_rows.Goals as goal

-- the width of a row is known
module _ (c : After-row_width-w) where
  wide : c.row_width-w.result ≡ row_width c.args.n
  wide = c.row_width-w.ensures

pub overflow_mul-end : goal.overflow_mul-end
overflow_mul-end c = rw (wide c) (omega (arith, c.requires.2))

pub loop-a-init : goal.loop-a-init
loop-a-init c = filled_none c.args.n c.args.sets.now c.args.out.now

pub overflow_mul-a : goal.overflow_mul-a
overflow_mul-a c =
    let x = c.args in
    let within = row_step (row_width x.n) c.loop-a.a x.n (omega arith) in
    rw (wide (goal.at.overflow_mul-a c).After-row_width-w) (omega (arith, within, c.requires.2))

pub put_row-requires : goal.put_row-requires
put_row-requires c =
    let x = c.args in
    let within = row_step (row_width x.n) c.loop-a.a x.n (omega arith) in
    rw (wide (goal.at.put_row-requires c).After-row_width-w) (
      omega arith,
      width-most c.args.n c.requires.0,
      within,
      omega (arith, c.requires.2, c.loop-a.invariant.same.len),
    )

pub loop-a-preserved : goal.loop-a-preserved
loop-a-preserved c =
    filled_more c.args.n c.loop-a.a c.args.sets.now c.args.out.now c.loop-a.out c.put_row.new.out c.requires.0
    c.loop-a.invariant (rw (wide (goal.at.loop-a-preserved c).After-row_width-w) at c.put_row.ensures)

pub returns : goal.returns
returns c =
    let e : c.loop-a.a ≡ c.args.n = omega arith in
    filled-all c.args.n c.args.sets.now c.args.out.now c.loop-a.out c.requires.2 (rw e at c.loop-a.invariant)
