-- `atoms::pair_count` meets its contract: the counts of both sides. Assumes nothing.
use native.Mathlib.Omega.{arith}
use Rattle.tables.proofs.AtomPlaces.{pair_count-is, few-pairs}
use Rattle.atoms.proofs.pair_count.Goals as goal

pub overflow_mul-result : goal.overflow_mul-result
overflow_mul-result c =
    rw (c.atoms_of-users.ensures.value, c.atoms_of-files.ensures.value) (omega (arith, few-pairs c.args.boxes.now c.args.rows.now c.requires.few-boxes))

pub returns : goal.returns
returns c = rw (pair_count-is, c.atoms_of-users.ensures.value, c.atoms_of-files.ensures.value)
