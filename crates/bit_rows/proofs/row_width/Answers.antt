-- `bit_rows::row_width` meets its contract. Assumes nothing.
use mathlib.Core.Path.{refl}
use Rattle.bit_rows.specs.Bits.{row_width}
use Rattle.bit_rows.proofs.row_width.Goals as goal

pub returns : goal.returns
unfolding row_width
returns c = refl
