-- The next place, or the first place of the next block. Assumes nothing.
use Rattle.block_parts.proofs.Walking.{walk-small, next_place, next-block}
use native.Mathlib.Omega.{arith}
use Rattle.block_parts.proofs.Walk.next.Goals as goal

pub overflow_add-place : goal.overflow_add-place
overflow_add-place c =
    let asked = c.requires in
    omega (arith, (walk-small _ _ asked.2).1, asked.1)

pub overflow_add-result : goal.overflow_add-result
overflow_add-result c =
    let asked = c.requires in
    omega (arith, (walk-small _ _ asked.2).0, asked.1)

pub returns-then-place-capacity : goal.returns-then-place-capacity
returns-then-place-capacity c =
    let asked = c.requires in
    next-block _ _ asked.2 asked.0 c.if-place-capacity.true

pub returns : goal.returns
returns c =
    let asked = c.requires in
    next_place _ _ asked.2 asked.0 c.if-place-capacity.false
