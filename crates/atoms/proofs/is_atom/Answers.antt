-- `atoms::is_atom` meets its contract: by the byte and the rows. Assumes nothing.
use Rattle.tables.proofs.AtomPlaces.{atom-is}
use Rattle.atoms.proofs.is_atom.Goals as goal

pub returns-then-is_single : goal.returns-then-is_single
returns-then-is_single c = rw (atom-is, c.is_outer.ensures, ← c.is_single.ensures, c.if-is_single.true)

pub returns-else-is_single : goal.returns-else-is_single
returns-else-is_single c = rw (atom-is, ← c.is_single.ensures, c.if-is_single.false)
