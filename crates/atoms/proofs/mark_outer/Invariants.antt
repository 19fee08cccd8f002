use mathlib.Core.Path.{◌≡◌}
use Prim.Native.Nat.{◌*◌, ◌≤◌}
use lib.ListN.{length, drop}
use Rattle.tables.specs.Rows.{row_count}
use Rattle.tables.specs.Atoms.{outer}
use Rattle.atoms.specs.Steps.{Marks}
use Rattle.atoms.proofs.mark_outer.Given as goal

abbrev pub invariant-loop-k : goal.invariant-loop-k
invariant-loop-k l = (l.k ≤ row_count l.rows) × (length l.marks ≡ length l.initial.marks) × Marks (outer (drop (2 * l.k) l.rows)) l.marks
