-- The arrows of a mode as `mode_sets::take_mode` leaves them, and the part of the numbers that a caller lends on. Assumes nothing.
use mathlib.Core.Path.{◌≡◌, ap, ◌∙◌}
use mathlib.Core.List.{List}
use Prim.Native.Nat.{ℕ, ◌≤◌}
use native.Mathlib.Omega.{arith}
use lib.ListN.{length, take}
use Rattle.base.specs.Buffers.{written, zeros}
use Rattle.base.proofs.BufferLaws.{zeros-length}
use Rattle.base.proofs.PartLaws.{Wrote, part-is, part_length, part-within}
use Rattle.tables.specs.Rows.{Picture}
use Rattle.mode_sets.specs.Mode.{own_arrows}
use Rattle.mode_sets.specs.Steps.{Small, ModeSets}
use Rattle.mode_sets.proofs.CallerLaws.{own-numbers}
use Rattle.mode_sets.proofs.OwnLaws.{own-most}
use Rattle.user_rows.specs.Steps.{Sized, Moded}
use Rattle.containment.specs.Steps.{closure_words}

-- a buffer of zeros has its places
pub room : (n : ℕ) {l : List ℕ} → l ≡ zeros n → n ≤ length l
room n e = omega (arith, ap length e, zeros-length n)

-- the first `count` places of `own` are lent on, with the sets
pub record Taken (arrows : List ℕ) (m count : ℕ) (own heads : List ℕ) : Type 0 where
  pub sets : ModeSets arrows m heads
  pub within : count ≤ length own
  pub len : count ≡ length (take count own)
  pub sized : (closure : List ℕ) → length closure ≡ closure_words → Sized closure heads arrows (take count own)
  pub moded : (pic : Picture) → arrows ≡ pic.arrows → Moded pic m heads arrows (take count own)

module _ (arrows : List ℕ) (m : ℕ) (small : Small arrows) (old : List ℕ) (count : ℕ) (own heads : List ℕ) where
  -- what `take_mode` promises
  abbrev Promised : Type 0
  Promised = (count ≡ length (own_arrows arrows m)) × ((own ≡ written (own_arrows arrows m) old) × ModeSets arrows m heads)

  -- where each arrow had a place
  pub taken_in : 512 ≤ length old → Promised → Taken arrows m count own heads
  taken_in places p =
      let w : Wrote (own_arrows arrows m) old count own = (p.0, p.1.0) in
      let are = part-is (own_arrows arrows m) old count own w in
      record {
        sets = p.1.1;
        within = part-within (own_arrows arrows m) old count own w (omega (arith, own-most arrows m, small.few));
        len = part_length (own_arrows arrows m) old count own w;
        sized = λ closure l. record {
          closure-len = l;
          heads-len = p.1.1.len;
          small = small;
          numbers = rw are (own-numbers arrows m);
        };
        moded = λ pic i. record { arrows-are = i; sets = rw i at p.1.1; own-are = are ∙ rw i };
      }

  pub taken : old ≡ zeros 512 → Promised → Taken arrows m count own heads
  taken e = taken_in (room 512 e)
