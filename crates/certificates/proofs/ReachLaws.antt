-- The files in the heads of some arrows, and the pairs that the arrows of a sign reach. Assumes nothing.
use mathlib.Core.Path.{◌≡◌, refl, sym, ap, ◌∙◌}
use mathlib.Core.Bool.{Bool, true, false, ◌&&◌}
use Prim.Native.Nat.{ℕ, ◌<◌}
use lib.Dec.{T, eqb}
use lib.ListN.{length}
use Rattle.base.specs.Steps.{any_below}
use Rattle.base.proofs.AnyLaws.{any_found, any-is, any_same, any-and, any-image}
use Rattle.tables.specs.Rows.{Picture, arrow_count, arrow_at}
use Rattle.tables.specs.Steps.{SoundArrows}
use Rattle.containment.specs.Contains.{around}
use Rattle.meaning.specs.Meaning.{hits}
use Rattle.mode_sets.specs.Mode.{leaves, heads_of}
use Rattle.mode_sets.proofs.HeadLaws.{head-there, heads-any, hits-is}
use Rattle.certificates.specs.Blocks.{in_one, reached_by}

module _ (pic : Picture) (sound : SoundArrows pic.boxes pic.arrows) where
  -- in one of the heads of the arrows that pass a test
  pub in-heads : (boxes test : ℕ → Bool)
      → ((g : ℕ) → boxes g ≡ any_below (λ j. test j && eqb (arrow_at pic.arrows j).head g) (arrow_count pic.arrows))
      → (f : ℕ) → in_one pic boxes f
      ≡ any_below (λ j. test j && around pic.rows (arrow_at pic.arrows j).head f) (arrow_count pic.arrows)
  unfolding in_one
  in-heads boxes test e f =
      any_same (λ g. boxes g && around pic.rows g f)
      (λ g. any_below (λ j. eqb (arrow_at pic.arrows j).head g && (test j && around pic.rows g f)) (arrow_count pic.arrows))
      (length pic.boxes)
      (λ g l.
      ap (λ (b : Bool). b && around pic.rows g f) (e g)
      ∙ sym (any-and (λ j. test j && eqb (arrow_at pic.arrows j).head g) (around pic.rows g f) (arrow_count pic.arrows))
      ∙ any_same _ _ (arrow_count pic.arrows)
      (λ j h. head_first (test j) (eqb (arrow_at pic.arrows j).head g) (around pic.rows g f)))
      ∙ any-image (λ j. (arrow_at pic.arrows j).head) (λ j g. test j && around pic.rows g f) (arrow_count pic.arrows) (length pic.boxes)
      (head-there pic.boxes pic.arrows sound)
    where
      head_first : (a b c : Bool) → ((a && b) && c) ≡ (b && (a && c))
      head_first true true c = refl
      head_first true false c = refl
      head_first false true c = refl
      head_first false false c = refl

  -- a pair is reached exactly if the file is in one of the heads from around the user
  pub reached-is : (m s u f : ℕ)
      → in_one pic (heads_of pic.arrows m s (λ t. around pic.rows t u)) f ≡ reached_by pic m s u f
  unfolding reached_by
  reached-is m s u f =
      in-heads (heads_of pic.arrows m s (λ t. around pic.rows t u)) (leaves pic.arrows m s (λ t. around pic.rows t u))
      (heads-any pic.arrows m s (λ t. around pic.rows t u) (arrow_count pic.arrows)) f
      ∙ any_same _ _ (arrow_count pic.arrows) (λ j l. sym (hits-is pic m s u f j))

module _ (pic : Picture) (m u f : ℕ) where
  pub reached-hit : (s k : ℕ) → k < (arrow_count pic.arrows) → T (hits pic m s u f k) → T (reached_by pic m s u f)
  unfolding reached_by
  reached-hit s k l t = any-is (hits pic m s u f) (arrow_count pic.arrows) k l t

  pub reached-found : (s : ℕ) → T (reached_by pic m s u f) → (k : ℕ) × (k < (arrow_count pic.arrows)) × T (hits pic m s u f k)
  unfolding reached_by
  reached-found s t = any_found (hits pic m s u f) (arrow_count pic.arrows) t
