-- A test as a byte. Assumes nothing.
use mathlib.Core.Path.{◌≡◌, refl}
use mathlib.Core.Bool.{Bool, true, false, not, ◌||◌, cond}
use Prim.Native.Nat.{◌<◌}
use lib.Bits.{bit_or}
use lib.Dec.{eqb, lit<}
use Rattle.base.specs.Steps.{bit}

pub bit_is : (p : Bool) → bit p ≡ cond p 1 0
unfolding bit
bit_is true = refl
bit_is false = refl

pub bit-lt : (p : Bool) → bit p < 2
unfolding bit
bit-lt true = lit< tt
bit-lt false = lit< tt

pub bit-or : (p q : Bool) → bit_or (bit p) (bit q) ≡ bit (p || q)
unfolding bit
bit-or true true = refl
bit-or true false = refl
bit-or false true = refl
bit-or false false = refl

-- a byte that is 1 says that the test holds
pub bit-one : (p : Bool) → eqb (bit p) 1 ≡ p
unfolding bit
bit-one true = refl
bit-one false = refl

-- a byte that is not 0 says that the test holds
pub bit_test : (p : Bool) → not (eqb (bit p) 0) ≡ p
unfolding bit
bit_test true = refl
bit_test false = refl

-- a byte that is 0 says that it does not
pub bit-none : (p : Bool) → eqb (bit p) 0 ≡ not p
unfolding bit
bit-none true = refl
bit-none false = refl
