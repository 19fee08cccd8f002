-- What the crates above cite: sound arrows are small, and the numbers of a mode's own arrows are arrows. Assumes nothing.
use mathlib.Core.List.{List}
use Prim.Native.Nat.{ℕ, ◌≤◌}
use native.Mathlib.Omega.{arith}
use lib.ListN.{length}
use Rattle.tables.specs.Steps.{SoundArrows}
use Rattle.mode_sets.specs.Mode.{own_arrows}
use Rattle.mode_sets.specs.Steps.{Small, Numbers}
use Rattle.mode_sets.proofs.HeadLaws.{tail-there, head-there}
use Rattle.mode_sets.proofs.OwnLaws.{own-found}

-- ---- what keeps every index in range

pub small-arrows : (boxes arrows : List ℕ) → SoundArrows boxes arrows → length boxes ≤ 256 → Small arrows
small-arrows boxes arrows sound few = record {
  few = sound.few-arrows;
  tail-small = λ k l. omega (arith, tail-there boxes arrows sound k l);
  head_small = λ k l. omega (arith, head-there boxes arrows sound k l);
  sign_small = sound.sign-most;
}

pub own-numbers : (arrows : List ℕ) (m : ℕ) → Numbers arrows (own_arrows arrows m)
own-numbers arrows m i l = (own-found arrows m i l).0
