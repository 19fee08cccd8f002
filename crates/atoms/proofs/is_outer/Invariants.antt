use mathlib.Core.Path.{◌≡◌}
use Prim.Native.Nat.{◌*◌, ◌≤◌}
use lib.ListN.{drop}
use Rattle.tables.specs.Rows.{row_count}
use Rattle.tables.specs.Atoms.{outer}
use Rattle.atoms.proofs.is_outer.Given as goal

abbrev pub invariant-loop-k : goal.invariant-loop-k
invariant-loop-k l = (l.k ≤ row_count l.rows) × (l.found ≡ outer (drop (2 * l.k) l.rows) l.b)
