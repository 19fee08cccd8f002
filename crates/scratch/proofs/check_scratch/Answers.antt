-- `scratch::check_scratch` meets its contract: one fault, and n × n fits where n is at most 256. Assumes nothing.
use native.Mathlib.Nat.{mul-le-mul}
use native.Mathlib.Omega.{arith}
use Rattle.scratch.specs.Scratch.{scratch_fault}
use Rattle.scratch.proofs.check_scratch.Goals as goal

pub overflow_mul-n : goal.overflow_mul-n
overflow_mul-n c = omega (arith, mul-le-mul c.requires c.requires)

pub returns : goal.returns
unfolding scratch_fault
returns c = c.check_room.ensures
