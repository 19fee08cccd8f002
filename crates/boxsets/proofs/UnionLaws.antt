-- The union of some sets of a table. Assumes nothing.
use mathlib.Core.Path.{◌≡◌, refl, sym, ap, ◌∙◌}
use mathlib.Core.Bool.{Bool, true, false, ◌&&◌, ◌||◌, or-false}
use mathlib.Core.List.{List}
use Prim.Native.Nat.{ℕ, ◌+◌}
use Rattle.base.specs.Steps.{any_below}
use Rattle.base.proofs.AnyLaws.{any_none, any_same, any-take}
use Rattle.base.proofs.SelectLaws.{lowest-nothing}
use Rattle.base.proofs.Tests.{and_T, false-not}
use Rattle.boxsets.specs.Sets.{is_in, has, set_at}
use Rattle.boxsets.specs.Members.{TakesLowest}
use Rattle.boxsets.specs.declared.Set.{Set}
use Rattle.boxsets.proofs.TableLaws.{has_in}
use Rattle.boxsets.proofs.TakesLaws.{takes-split}

module _ (t : List ℕ) (from : ℕ) where
  -- b is in a set whose number passes the test
  abbrev pub in_some : (p : ℕ → Bool) (b : ℕ) → Bool
  in_some p b = any_below (λ k. p k && has t (from + k) b) 256

  -- p holds of the numbers that a walk goes over, and q of those to come: what was found, and what these still give, make up the whole
  pub record Found (p q : ℕ → Bool) (found : Set) : Type 0 where
    pub each : (b : ℕ) → (is_in found b || in_some q b) ≡ in_some p b

  pub found-none : (p q : ℕ → Bool) (found : Set) → ((b : ℕ) → is_in found b ≡ false) → ((a : ℕ) → q a ≡ p a) → Found p q found
  found-none p q found empty e = record {
    each = λ b. rw (empty b) (any_same _ _ 256 (λ a l. ap (λ (z : Bool). z && has t (from + a) b) (e a)));
  }

  pub found-next : {k : ℕ} {p q r : ℕ → Bool} (found read next : Set) → TakesLowest q k r → read ≡ set_at t (from + k)
      → ((b : ℕ) → is_in next b ≡ (is_in found b || is_in read b)) → Found p q found → Found p r next
  found-next {k} {p} {q} {r} found read next takes is joins before = record {
    each = λ b.
        ap (λ (z : Bool). z || in_some r b)
        (joins b ∙ ap (λ (z : Bool). is_in found b || z) (ap (λ (y : Set). is_in y b) is ∙ sym (has_in t (from + k) b)))
        ∙ assoc (is_in found b) (has t (from + k) b) (in_some r b)
        ∙ ap (λ (z : Bool). is_in found b || z) (sym (any-take q r (λ j. has t (from + j) b) k 256 takes.below (takes-split takes)))
        ∙ before.each b;
  }
    where
      assoc : (a b c : Bool) → ((a || b) || c) ≡ (a || (b || c))
      assoc true b c = refl
      assoc false b c = refl

  nothing-in : (q : ℕ → Bool) → ((a : ℕ) → q a ≡ false) → (b : ℕ) → in_some q b ≡ false
  nothing-in q none b =
      any_none (λ k. q k && has t (from + k) b) 256
      (lowest-nothing (λ k. q k && has t (from + k) b) 256
      (λ j l s. false-not (q j) (none j) (and_T (q j) (has t (from + j) b) s).0))

  pub found-end : {p q : ℕ → Bool} (found : Set) → ((a : ℕ) → q a ≡ false) → Found p q found → (b : ℕ) → is_in found b ≡ in_some p b
  found-end {p} {q} found none all b =
      sym (or-false (is_in found b)) ∙ ap (λ (z : Bool). is_in found b || z) (sym (nothing-in q none b)) ∙ all.each b
