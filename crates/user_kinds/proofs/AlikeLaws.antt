-- Users around whom the same tails are have the same answers, and where they are noted. Assumes nothing.
use mathlib.Core.Path.{◌≡◌, refl, sym, ap, ap₂, ◌∙◌}
use mathlib.Core.Bool.{Bool, true, false, ◌&&◌, ◌||◌}
use mathlib.Core.List.{List}
use Prim.Native.Nat.{ℕ, zero, suc, ◌+◌, ◌<◌, ◌≤◌}
use native.Mathlib.Omega.{arith}
use lib.Dec.{T}
use lib.ListN.{length, get_or}
use Rattle.base.specs.Buffers.{zeros}
use Rattle.base.proofs.BufferLaws.{zeros-length, zeros-at}
use Rattle.base.proofs.Tests.{T_true, T-or₁, T-or₂}
use Rattle.tables.specs.Rows.{Picture, arrow_count, arrow_at}
use Rattle.tables.specs.Steps.{SoundArrows}
use Rattle.containment.specs.Contains.{around}
use Rattle.meaning.specs.Meaning.{positive, negative, has_mode, answer}
use Rattle.meaning.proofs.SameUsers.{SameAround, same-user}
use Rattle.boxsets.specs.Sets.{is_in, set_at}
use Rattle.boxsets.specs.declared.Set.{Set}
use Rattle.boxsets.proofs.TableLaws.{has_in}
use Rattle.mode_sets.specs.Mode.{tails_below}
use Rattle.mode_sets.specs.Steps.{ModeSets}
use Rattle.mode_sets.proofs.TailLaws.{tail-taken}
use Rattle.certificates.specs.Steps.{Drawn}
use Rattle.user_kinds.specs.Steps.{TailsNear, Alike, Noted, note_count}

and_yes : (a b : Bool) → b ≡ true → (a && b) ≡ a
and_yes true b e = e
and_yes false b e = refl

module _ (pic : Picture) (m : ℕ) (sound : SoundArrows pic.boxes pic.arrows) where
  -- box t is the tail of an arrow of the mode
  abbrev is_tail : ℕ → Bool
  is_tail t =
      tails_below pic.arrows m (arrow_count pic.arrows) negative t || tails_below pic.arrows m (arrow_count pic.arrows) positive t

  -- the tail of an arrow of the mode is one
  tail-there : (k : ℕ) → k < arrow_count pic.arrows → T (has_mode pic.arrows m k) → is_tail (arrow_at pic.arrows k).tail ≡ true
  tail-there k l t =
      T_true (is_tail mine) (go (arrow_at pic.arrows k).sign (sound.sign-most k l) (tail-taken pic.arrows m k l t))
    where
      mine : ℕ
      mine = (arrow_at pic.arrows k).tail

      taken : ℕ → Bool
      taken s = tails_below pic.arrows m (arrow_count pic.arrows) s mine

      go : (s : ℕ) → s ≤ 1 → T (taken s) → T (is_tail mine)
      go zero most x = T-or₁ (taken negative) (taken positive) x
      go (suc zero) most x = T-or₂ (taken negative) (taken positive) x
      go (suc (suc s)) most x = absurd (omega arith)

  -- of an arrow's tail the kept set says whether it is around the user
  around-by : (u : ℕ) (tails : Set) → TailsNear pic m u tails → (k : ℕ) → k < arrow_count pic.arrows → T (has_mode pic.arrows m k)
      → is_in tails (arrow_at pic.arrows k).tail ≡ around pic.rows (arrow_at pic.arrows k).tail u
  around-by u tails near k l t =
      let mine = (arrow_at pic.arrows k).tail in
      near.tails-are mine ∙ and_yes (around pic.rows mine u) (is_tail mine) (tail-there k l t)

  module _ (tails : Set) (u v : ℕ) (one : TailsNear pic m u tails) (other : TailsNear pic m v tails) where
    same-around : SameAround pic m u v
    same-around k l t = sym (around-by u tails one k l t) ∙ around-by v tails other k l t

    pub alike-by : (x y : ℕ) → u ≡ x → v ≡ y → Alike pic m x y
    alike-by x y e i f = ap (λ (z : ℕ). answer pic m z f) (sym e) ∙ same-user pic m u v same-around f ∙ ap (λ (z : ℕ). answer pic m z f) i

-- what `tails_near` gives
pub near-made : (pic : Picture) (m : ℕ) (closure heads : List ℕ) → Drawn pic closure → ModeSets pic.arrows m heads
    → (u : ℕ) → u < length pic.boxes → (up first second both r : Set) → up ≡ set_at closure (256 + u) → first ≡ set_at heads 512
    → second ≡ set_at heads 513 → ((t : ℕ) → is_in both t ≡ (is_in first t || is_in second t)) → ((t : ℕ) → is_in r t ≡ (is_in up t && is_in both t))
    → TailsNear pic m u r
near-made pic m closure heads d sets u there up first second both r e₀ e₁ e₂ joins shares = record {
  tails-are = λ t.
      shares t
      ∙ ap₂ ◌&&◌
      (ap (λ (x : Set). is_in x t) e₀ ∙ sym (has_in closure (256 + u) t) ∙ d.closed.up t u there)
      (joins t
      ∙ ap₂ ◌||◌
      (ap (λ (x : Set). is_in x t) e₁ ∙ sym (has_in heads 512 t) ∙ sets.tails-are negative t (omega arith))
      (ap (λ (x : Set). is_in x t) e₂ ∙ sym (has_in heads 513 t) ∙ sets.tails-are positive t (omega arith)));
}

-- ---- notes

pub noted-none : (notes : List ℕ) → notes ≡ zeros note_count → Noted 0 notes
noted-none notes e = record {
  len = ap length e ∙ zeros-length 107;
  before = λ k l. let z : get_or notes k 0 ≡ 0 = rw e (zeros-at 107 k l) in omega arith;
}
