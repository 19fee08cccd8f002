-- The mode's arrows without repeats, as the part of their places that is lent on. Assumes nothing.
use mathlib.Core.Path.{◌≡◌}
use mathlib.Core.List.{List}
use Prim.Native.Nat.{ℕ, ◌≤◌}
use native.Mathlib.Omega.{arith}
use lib.ListN.{length, take}
use Rattle.base.proofs.PartLaws.{Wrote, part-is, part_length, part-within}
use Rattle.meaning.specs.Meaning.{mode_arrows}
use Rattle.mode_sets.specs.Mode.{own_arrows}
use Rattle.mode_sets.specs.Steps.{Small, Numbers}
use Rattle.mode_sets.proofs.OwnLaws.{own-most, own-mode-most}
use Rattle.mode_sets.proofs.CallerLaws.{own-numbers}

pub record OwnPart (arrows : List ℕ) (m count : ℕ) (own : List ℕ) : Type 0 where
  pub within : count ≤ length own
  pub len : count ≡ length (take count own)
  pub are : take count own ≡ own_arrows arrows m
  pub numbers : Numbers arrows (take count own)
  pub few : length (take count own) ≤ 512
  pub most : length (take count own) ≤ length (mode_arrows arrows m)

pub own-part : (arrows : List ℕ) (m : ℕ) (old : List ℕ) (count : ℕ) (own : List ℕ) → Wrote (own_arrows arrows m) old count own → Small arrows
    → 512 ≤ length old → OwnPart arrows m count own
own-part arrows m old count own w small places =
    let are = part-is (own_arrows arrows m) old count own w in
    record {
      within = part-within (own_arrows arrows m) old count own w (omega (arith, own-most arrows m, small.few));
      len = part_length (own_arrows arrows m) old count own w;
      are = are;
      numbers = rw are (own-numbers arrows m);
      few = rw are (omega (arith, own-most arrows m, small.few));
      most = rw are (own-mode-most arrows m);
    }
