use mathlib.Core.Path.{◌≡◌}
use Prim.Native.Nat.{◌≤◌}
use lib.ListN.{length}
use Rattle.base.specs.Search.{select}
use Rattle.tables.specs.Rows.{arrow_count}
use Rattle.meaning.specs.Meaning.{has_mode}
use Rattle.lists.proofs.stages.mode_count.Given as goal

abbrev pub invariant-loop-k : goal.invariant-loop-k
invariant-loop-k l = (l.k ≤ arrow_count l.arrows) × (l.count ≡ length (select (has_mode l.arrows l.mode) l.k))
