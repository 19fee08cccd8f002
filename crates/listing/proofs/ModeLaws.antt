-- Which modes have an arrow. Assumes nothing.
use mathlib.Core.Path.{◌≡◌}
use mathlib.Core.Bool.{Bool, true, false}
use mathlib.Core.List.{List}
use Prim.Native.Nat.{ℕ, ◌<◌, ◌≤◌}
use native.Mathlib.Omega.{arith}
use borrow.Author.Tests.{lt-ltb, le-ltb}
use native.Mathlib.Nat.{zero-add}
use lib.ListN.{length}
use Rattle.std.specs.Bool.{MatchBool}
use Rattle.std.specs.List.{HoldsAt, AllWithin, range_with_len}
use Rattle.std.proofs.lemmas.List.FromFn.{get_or-range_with_len, length-range_with_len}
use Rattle.base.proofs.BufferLaws.{select-most}
use Rattle.tables.specs.Rows.{arrow_count, arrow_at}
use Rattle.meaning.specs.Meaning.{mode_arrows}
use Rattle.meaning.proofs.ModeLaws.{mode-some, mode-none}
use Rattle.listing.specs.Listing.{used}
use Rattle.listing.specs.PairRows.{used_modes}

pub few-modes : (arrows : List ℕ) → length (used_modes arrows) ≤ 8
unfolding used_modes
few-modes arrows = select-most (used arrows) 8

module _ (arrows : List ℕ) (m : ℕ) where
  -- arrow k has the mode, and has it not
  abbrev pub HasMode : ℕ → Type 0
  HasMode k = (arrow_at arrows k).mode ≡ m

  abbrev pub HasOther : ℕ → Type 0
  HasOther k = HasMode k → ⊥

  abbrev places : List ℕ
  places = range_with_len 0 (arrow_count arrows)

  -- whether one of them has it, by a look at each
  pub used-is : (r : Bool)
      → MatchBool r ((k : ℕ) × (k < length places) × HoldsAt HasMode places k) (AllWithin HasOther places 0 (length places))
      → r ≡ used arrows m
  unfolding used
  used-is true (k, l, has) =
      let below : k < arrow_count arrows = rw length-range_with_len at l in
      rw (lt-ltb 0 (length (mode_arrows arrows m))
      (mode-some arrows m k below (rw (get_or-range_with_len 0 (arrow_count arrows) k 0 below, zero-add) at (has 0))))
  used-is false none =
      rw (le-ltb 0 (length (mode_arrows arrows m))
      (mode-none arrows m (λ j l.
      rw (get_or-range_with_len 0 (arrow_count arrows) j 0 l, zero-add) at (none j 0 (omega arith) (rw length-range_with_len l)))))
