-- Blocks before the last are full (`Taken`). Assumes nothing.
use Rattle.packer.proofs.Taking.{least-of, taken_none, taken-some, taken_more, taken-all}
use Rattle.std.proofs.Common.{◌∙◌}
use native.Mathlib.Omega.{arith}
use borrow.Author.Rules.{rules}
use Rattle.packer.proofs.blocks_for.Goals as goal

pub loop-row-init : goal.loop-row-init
loop-row-init c = taken_none _ _ c.requires.0

pub overflow_add-row : goal.overflow_add-row
overflow_add-row c =
    let l = c.loop-row in
    let t = taken-some _ _ c.requires.0 _ _ _ l.invariant (search rules) (c.min-row.ensures ∙ least-of _ _) in
    omega (arith, t.1, c.requires.2)

pub overflow_add-blocks : goal.overflow_add-blocks
overflow_add-blocks c =
    let l = c.loop-row in
    omega (arith, l.invariant.few, l.invariant.most, c.requires.2)

pub loop-row-smaller : goal.loop-row-smaller
loop-row-smaller c =
    let l = c.loop-row in
    let t = taken-some _ _ c.requires.0 _ _ _ l.invariant (search rules) (c.min-row.ensures ∙ least-of _ _) in
    omega (arith, t.0, t.1)

pub loop-row-preserved : goal.loop-row-preserved
loop-row-preserved c = taken_more _ _ c.requires.0 _ _ _ c.loop-row.invariant (search rules) (c.min-row.ensures ∙ least-of _ _)

pub returns : goal.returns
returns c = taken-all _ _ c.requires.0 _ _ c.loop-row.invariant (search rules)
