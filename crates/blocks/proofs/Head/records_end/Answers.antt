-- At most 6 bytes for each of at most 65,535 records; a block of no kind has none. Assumes nothing.
use Rattle.std.proofs.Common.{◌*◌, ◌<◌, ◌^◌, arith, rules, zero-mul}
use Rattle.blocks.specs.Steps.{number_of, records_end}
use Rattle.blocks.proofs.Heads.{size-most, no-size}
use Rattle.blocks.proofs.Product.{below}
use Rattle.blocks.proofs.Head.records_end.Goals.{After-from}
use Rattle.blocks.proofs.Head.records_end.Goals as goal

product : (c : After-from) → c.size.result * c.from.result < 2 ^ 32
product c = below 16 (rw c.size.ensures (omega (arith, size-most (number_of c.in-Ok.kind)))) (search rules)

pub overflow_mul-result : goal.overflow_mul-result
overflow_mul-result c = let p = product c in omega arith

pub overflow_add-result : goal.overflow_add-result
overflow_add-result c = let p = product c in omega arith

pub returns-in-Ok : goal.returns-in-Ok
unfolding records_end
returns-in-Ok c = rw (c.size.ensures, c.in-Ok.ensures, c.from.ensures)

pub returns-in-Err : goal.returns-in-Err
unfolding records_end
returns-in-Err c = rw (no-size _ c.in-Err.ensures, zero-mul)
