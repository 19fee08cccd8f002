-- `scratch::filling::fill_scratch` meets its contract: 1 by the sets, then 2 at the rows. Assumes nothing.
use native.Mathlib.Omega.{arith}
use Rattle.scratch.proofs.MarkLaws.{contains-square, fill_is}
use Rattle.scratch.proofs.filling.fill_scratch.Goals as goal

pub spread-requires : goal.spread-requires
spread-requires c =
    let a = c.args in
    let len = c.requires.both.len in
    (omega arith, contains-square a.n a.rows.now a.closure.now c.requires.rows_below.0 c.requires.both, c.requires.rows_below.2)

pub mark_direct-requires : goal.mark_direct-requires
mark_direct-requires c =
    let kept = c.spread.ensures.same_from.len in
    (c.requires.rows_below.0, omega arith)

pub returns : goal.returns
returns c =
    let a = c.args in
    fill_is a.n a.rows.now a.closure.now a.scratch.now c.spread.new.scratch c.mark_direct.new.scratch c.requires.rows_below.2
    c.requires.both c.spread.ensures.cells c.spread.ensures.same_from (c.mark_direct.ensures.by_index, c.mark_direct.ensures.same_from)
