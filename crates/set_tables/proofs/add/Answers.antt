-- `set_tables::table::add` meets its contract: one bit more. Assumes nothing.
use Prim.Native.Nat.{◌%◌}
use native.Mathlib.Omega.{arith}
use lib.ListN.{length-set}
use Rattle.boxsets.proofs.WordLaws.{one_shifted}
use Rattle.boxsets.proofs.TableLaws.{add-has}
use Rattle.set_tables.proofs.add.Goals as goal

pub returns : goal.returns
returns c =
    let a = c.args in
    record {
      len = simp length-set;
      each = λ i b. rw (one_shifted (a.k % 64) (omega arith)) (add-has a.t.now a.r a.k (omega arith) (omega arith) i b);
    }
