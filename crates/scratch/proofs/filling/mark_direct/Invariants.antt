use Prim.Native.Nat.{◌≤◌}
use Rattle.tables.specs.Rows.{row_count}
use Rattle.scratch.proofs.MarkLaws.{Marked}
use Rattle.scratch.proofs.filling.mark_direct.Given as goal

abbrev pub invariant-loop-k : goal.invariant-loop-k
invariant-loop-k l = (l.k ≤ row_count l.rows) × Marked l.n 2 l.rows l.k l.initial.scratch l.scratch
