-- `tables::is_group` meets its contract. Assumes nothing.
use mathlib.Core.Path.{refl}
use Rattle.tables.specs.Rows.{is_group}
use Rattle.tables.proofs.sides.is_group.Goals as goal

pub returns : goal.returns
unfolding is_group
returns c = refl
