use Rattle.std.proofs.Common.{◌<◌}
use Rattle.case_text.proofs.reading.number.Given as goal

abbrev pub invariant-loop : goal.invariant-loop
invariant-loop g l = l.value < 100000
