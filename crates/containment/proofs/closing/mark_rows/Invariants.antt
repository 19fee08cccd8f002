use Prim.Native.Nat.{◌*◌, ◌≤◌}
use lib.ListN.{drop}
use Rattle.tables.specs.Rows.{row_count}
use Rattle.containment.specs.Contains.{direct}
use Rattle.containment.specs.Steps.{Both}
use Rattle.containment.proofs.closing.mark_rows.Given as goal

abbrev pub invariant-loop-k : goal.invariant-loop-k
invariant-loop-k l = (l.k ≤ row_count l.rows) × Both 256 (direct (drop (2 * l.k) l.rows)) l.closure
