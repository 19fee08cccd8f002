-- The answer of a pair from its row and its number, as `entry_of` makes it. Assumes nothing.
use mathlib.Core.Path.{◌≡◌, sym, ap, ap₂, ◌∙◌}
use mathlib.Core.Bool.{Bool, true, false}
use Rattle.std.specs.Prelude.{Some as some}
use Prim.Native.Nat.{ℕ, ◌<◌, ◌≤◌}
use native.Mathlib.Omega.{arith}
use lib.Dec.{T}
use Rattle.base.specs.Search.{lowest}
use Rattle.base.proofs.Tests.{T_true, true-T, false-not}
use Rattle.tables.specs.Rows.{Picture, arrow_count}
use Rattle.meaning.specs.Meaning.{positive, negative, hits, answer, is_granted, is_unclear, number_of}
use Rattle.meaning.specs.declared.Entry.TheVariants.{Granted, Denied, Default, Unclear}
use Rattle.meaning.proofs.SettleLaws.{granted-number, unclear-names, denied-number}
use Rattle.boxsets.specs.Sets.{is_in}
use Rattle.user_rows.specs.Steps.{Sorts}
use Rattle.user_rows.specs.declared.Row.{Row}

module _ (pic : Picture) (m u f : ℕ) (asked : ℕ → Bool) (row : Row) (sorts : Sorts pic m u asked row) (asked-f : T (asked f)) where
  granted-is : is_in row.granted f ≡ is_granted (answer pic m u f)
  granted-is = sorts.granted-are f ∙ rw (T_true (asked f) asked-f)

  unclear-is : is_in row.unclear f ≡ is_unclear (answer pic m u f)
  unclear-is = sorts.unclear-are f ∙ rw (T_true (asked f) asked-f)

  -- the lowest arrow of each sign that reaches the pair
  pub give-unclear : is_in row.unclear f ≡ true → (p n : ℕ)
      → ((k : ℕ) → lowest (hits pic m positive u f) (arrow_count pic.arrows) ≡ some k → p ≡ k)
      → ((k : ℕ) → lowest (hits pic m negative u f) (arrow_count pic.arrows) ≡ some k → n ≡ k)
      → Unclear p n ≡ answer pic m u f
  give-unclear e p n first second =
      let (i, j, a, b, r) = unclear-names pic m u f (true-T (is_unclear (answer pic m u f)) (sym unclear-is ∙ e)) in
      ap₂ Unclear (first i a) (second j b) ∙ sym r

  module _ (number : ℕ) (number_is : number ≡ number_of (answer pic m u f)) where
    pub give-granted : is_in row.granted f ≡ true → Granted number ≡ answer pic m u f
    give-granted e =
        ap Granted number_is ∙ granted-number (answer pic m u f) (true-T (is_granted (answer pic m u f)) (sym granted-is ∙ e))

    module _ (few : arrow_count pic.arrows ≤ 512) (not-granted : is_in row.granted f ≡ false) (not-unclear : is_in row.unclear f ≡ false) where
      neither : (number_of (answer pic m u f) < 65535 → Denied (number_of (answer pic m u f)) ≡ answer pic m u f)
          × (65535 ≤ number_of (answer pic m u f) → Default ≡ answer pic m u f)
      neither =
          denied-number pic m u f few (false-not (is_granted (answer pic m u f)) (sym granted-is ∙ not-granted))
          (false-not (is_unclear (answer pic m u f)) (sym unclear-is ∙ not-unclear))

      pub give-denied : number < 65535 → Denied number ≡ answer pic m u f
      give-denied l = ap Denied number_is ∙ neither.0 (omega arith)

      pub give-default : 65535 ≤ number → Default ≡ answer pic m u f
      give-default l = neither.1 (omega arith)
