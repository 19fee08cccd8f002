-- The numbers of a row before it is answered. Assumes nothing.
use mathlib.Core.Path.{◌≡◌, refl}
use Prim.Native.Nat.{ℕ, ◌<◌}
use lib.ListN.{length, get_or, replicate, length-replicate, get_or-replicate}
use Rattle.user_rows.specs.Steps.{blank_row}

-- what `base::filled` makes of 65,535
pub blank-is : replicate 256 65535 ≡ blank_row
unfolding blank_row
blank-is = refl

pub blank-length : length blank_row ≡ 256
unfolding blank_row
blank-length = length-replicate {A = ℕ} 256 65535

pub blank-at : (f : ℕ) → f < 256 → get_or blank_row f 0 ≡ 65535
unfolding blank_row
blank-at f l = get_or-replicate 256 f 65535 0 l
