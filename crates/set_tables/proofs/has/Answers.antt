-- `set_tables::table::has` meets its contract: the bit is shifted down to the lowest place. Assumes nothing.
use mathlib.Core.Path.{sym, ◌∙◌}
use Prim.Native.Nat.{◌+◌, ◌*◌, ◌/◌, ◌%◌}
use native.Mathlib.Omega.{arith}
use lib.ListN.{get_or}
use Rattle.boxsets.proofs.WordLaws.{low-shifted}
use Rattle.boxsets.proofs.TableLaws.{has_word}
use Rattle.set_tables.proofs.has.Goals as goal

pub returns : goal.returns
returns c =
    let a = c.args in
    low-shifted (a.k % 64) (get_or a.t.now (4 * a.r + a.k / 64) 0) ∙ sym (has_word a.t.now a.r a.k (omega arith))
