-- Each count grows by the block's records of its kind, which are at most 65,535. Assumes nothing.
use native.Mathlib.Omega.{arith}
use Rattle.blocks.specs.Steps.{counts_with}
use Rattle.blocks.proofs.Heads.{count_most}
use Rattle.blocks.proofs.Counts.with.Goals as goal

pub overflow_add-result : goal.overflow_add-result
overflow_add-result c = omega (arith, count_most 1 c.args.head)

pub overflow_add-result-2 : goal.overflow_add-result-2
overflow_add-result-2 c = omega (arith, count_most 2 c.args.head)

pub overflow_add-result-3 : goal.overflow_add-result-3
overflow_add-result-3 c = omega (arith, count_most 3 c.args.head)

pub returns : goal.returns
unfolding counts_with
returns c = rw (c.count_of-3.ensures, c.count_of-2.ensures, c.count_of.ensures)
