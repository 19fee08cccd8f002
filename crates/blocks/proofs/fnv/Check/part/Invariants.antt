use Rattle.std.proofs.Common.{◌≡◌, drop}
use Rattle.blocks.specs.Fnv.{fnv_fold}
use Rattle.blocks.proofs.fnv.Check.part.Given as goal

abbrev pub invariant-loop-b : goal.invariant-loop-b
invariant-loop-b l = fnv_fold l.c.state (drop l.b-index l.s) ≡ fnv_fold l.initial.c.state l.s
