-- What a row is answered from: the sets and the arrows of a mode as `take_mode` left them, and the files as a set. Assumes nothing.
use mathlib.Core.Path.{◌≡◌, sym, ap, subst, ◌∙◌}
use mathlib.Core.Bool.{Bool, ◌&&◌}
use mathlib.Core.List.{List}
use Prim.Native.Nat.{ℕ, ◌<◌, ◌≤◌}
use native.Mathlib.Omega.{arith}
use lib.Dec.{T}
use lib.ListN.{length, get_or, take}
use Rattle.std.proofs.Common.{replicate}
use Rattle.std.proofs.lemmas.List.{length-replicate}
use Rattle.base.proofs.PartLaws.{Wrote, part-is, part_length, part-within}
use Rattle.tables.specs.Rows.{Picture}
use Rattle.meaning.specs.Meaning.{answer, is_granted, is_unclear, number_of}
use Rattle.boxsets.specs.Sets.{is_in, among}
use Rattle.boxsets.specs.declared.Set.{Set}
use Rattle.boxsets.proofs.AmongLaws.{among-is}
use Rattle.mode_sets.specs.Mode.{own_arrows}
use Rattle.mode_sets.specs.Steps.{Small, ModeSets}
use Rattle.mode_sets.proofs.CallerLaws.{own-numbers}
use Rattle.mode_sets.proofs.OwnLaws.{own-most}
use Rattle.user_rows.specs.Steps.{Sized, Moded, Sorts}
use Rattle.user_rows.specs.declared.Row.{Row}
use Rattle.containment.specs.Steps.{closure_words}

module _ {arrows old own : List ℕ} {count : ℕ} (m : ℕ) (small : Small arrows) (room : old ≡ replicate 512 0)
    (w : Wrote (own_arrows arrows m) old count own) where
  pub own-there : count ≤ length own
  own-there =
      let n : length old ≡ 512 = ap length room ∙ length-replicate {A = ℕ} 512 0 in
      part-within (own_arrows arrows m) old count own w (omega (arith, own-most arrows m, small.few))

  pub own-length : count ≡ length (take count own)
  own-length = part_length (own_arrows arrows m) old count own w

  own_is : take count own ≡ own_arrows arrows m
  own_is = part-is (own_arrows arrows m) old count own w

  module _ {heads : List ℕ} (sets : ModeSets arrows m heads) where
    pub own-sized : {closure : List ℕ} → length closure ≡ closure_words → Sized closure heads arrows (take count own)
    own-sized e = record { closure-len = e; heads-len = sets.len; small = small; numbers = rw own_is (own-numbers arrows m) }

    pub own-moded : {pic : Picture} → arrows ≡ pic.arrows → Moded pic m heads arrows (take count own)
    own-moded e = record { arrows-are = e; sets = rw e at sets; own-are = own_is ∙ rw e }

-- asked by a set of the files
module _ {pic : Picture} {m u : ℕ} (fs : List ℕ) (asked : Set) (r : Row) (numbers : List ℕ) (is : (k : ℕ) → is_in asked k ≡ among fs k)
    (told : Sorts pic m u (is_in asked) r × ((f : ℕ) → T (is_in asked f) → get_or numbers f 0 ≡ number_of (answer pic m u f))) where
  pub answered : Sorts pic m u (among fs) r × ((i : ℕ) → i < length fs → get_or numbers (get_or fs i 0) 0 ≡ number_of (answer pic m u (get_or fs i 0)))
  answered = (
    record {
      granted-are = λ f. told.0.granted-are f ∙ ap (λ (b : Bool). b && is_granted (answer pic m u f)) (is f);
      unclear-are = λ f. told.0.unclear-are f ∙ ap (λ (b : Bool). b && is_unclear (answer pic m u f)) (is f);
    },
    λ i l. told.1 (get_or fs i 0) (subst T (sym (is (get_or fs i 0))) (among-is fs i l)),
  )
