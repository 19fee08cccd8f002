-- The numbers of the two signs. Assumes nothing.
use mathlib.Core.Path.{◌≡◌, refl}
use Prim.Native.Nat.{◌≤◌}
use native.Mathlib.Omega.{arith}
use Rattle.certificates.specs.Steps.{sign_number}
use Rattle.certificates.specs.declared.Sign.{Sign}
use Rattle.certificates.specs.declared.Sign.TheVariants.{Negative, Positive}

pub sign-small : (s : Sign) → sign_number s ≤ 1
sign-small Negative = omega arith
sign-small Positive = omega arith

-- two signs with one number are one
pub sign-same : (s t : Sign) → sign_number s ≡ sign_number t → s ≡ t
sign-same Negative Negative e = refl
sign-same Positive Positive e = refl
sign-same Negative Positive e = absurd (omega arith)
sign-same Positive Negative e = absurd (omega arith)
