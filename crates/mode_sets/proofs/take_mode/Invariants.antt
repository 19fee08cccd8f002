use Prim.Native.Nat.{◌≤◌}
use Rattle.tables.specs.Rows.{arrow_count}
use Rattle.mode_sets.proofs.ModeLaws.{Turned}
use Rattle.mode_sets.proofs.take_mode.Given as goal

abbrev pub invariant-loop-k : goal.invariant-loop-k
invariant-loop-k l =
    (l.k ≤ arrow_count l.arrows) × Turned l.arrows l.mode l.initial.own l.k l.count l.own l.heads
