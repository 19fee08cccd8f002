use Prim.Native.Nat.{◌+◌, ◌*◌}
use Rattle.bit_rows.specs.Steps.{set_byte, Laid}
use Rattle.bit_rows.proofs.put_set.Given as goal

abbrev pub invariant-loop-q : goal.invariant-loop-q
invariant-loop-q l = Laid (set_byte l.sets l.a) l.at (8 * l.q) (l.at + 8 * l.q) l.initial.out l.out
