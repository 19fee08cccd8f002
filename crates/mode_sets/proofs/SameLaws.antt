-- Two arrows with the same ends, mode and sign. Assumes nothing.
use mathlib.Core.Path.{◌≡◌}
use mathlib.Core.Bool.{◌&&◌}
use mathlib.Core.List.{List}
use Prim.Native.Nat.{ℕ}
use lib.Dec.{T, eqb, eqb→eq}
use Rattle.base.proofs.Tests.{and_T, T_and, T-eqb}
use Rattle.tables.specs.Rows.{arrow_at}
use Rattle.mode_sets.specs.Mode.{same}

module _ (arrows : List ℕ) (k j : ℕ) where
  pub same_parts : T (same arrows k j)
      → ((arrow_at arrows k).tail ≡ (arrow_at arrows j).tail) × ((arrow_at arrows k).head ≡ (arrow_at arrows j).head)
      × ((arrow_at arrows k).mode ≡ (arrow_at arrows j).mode) × ((arrow_at arrows k).sign ≡ (arrow_at arrows j).sign)
  unfolding same
  same_parts t =
      let tails = eqb (arrow_at arrows k).tail (arrow_at arrows j).tail in
      let heads = eqb (arrow_at arrows k).head (arrow_at arrows j).head in
      let modes = eqb (arrow_at arrows k).mode (arrow_at arrows j).mode in
      let signs = eqb (arrow_at arrows k).sign (arrow_at arrows j).sign in
      let a = and_T (tails && heads) (modes && signs) t in
      let b = and_T tails heads a.0 in
      let c = and_T modes signs a.1 in
      (eqb→eq _ _ b.0, eqb→eq _ _ b.1, eqb→eq _ _ c.0, eqb→eq _ _ c.1)

  pub same-is : (arrow_at arrows k).tail ≡ (arrow_at arrows j).tail → (arrow_at arrows k).head ≡ (arrow_at arrows j).head
      → (arrow_at arrows k).mode ≡ (arrow_at arrows j).mode → (arrow_at arrows k).sign ≡ (arrow_at arrows j).sign → T (same arrows k j)
  unfolding same
  same-is t h o s =
      let tails = eqb (arrow_at arrows k).tail (arrow_at arrows j).tail in
      let heads = eqb (arrow_at arrows k).head (arrow_at arrows j).head in
      let modes = eqb (arrow_at arrows k).mode (arrow_at arrows j).mode in
      let signs = eqb (arrow_at arrows k).sign (arrow_at arrows j).sign in
      T_and (tails && heads) (modes && signs) (T_and tails heads (T-eqb t) (T-eqb h)) (T_and modes signs (T-eqb o) (T-eqb s))
