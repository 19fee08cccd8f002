-- `tables::side_of` meets its contract. Assumes nothing.
use mathlib.Core.Path.{refl}
use Rattle.tables.specs.Rows.{side_of}
use Rattle.tables.proofs.sides.side_of.Goals as goal

pub returns : goal.returns
unfolding side_of
returns c = refl
