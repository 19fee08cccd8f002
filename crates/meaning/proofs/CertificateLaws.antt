-- What makes an arrow a certificate: only the arrow itself counts, and only an opposite arrow that it does not override stands against it.
-- Assumes nothing.
use mathlib.Core.Path.{◌≡◌, refl, ap, ◌∙◌}
use mathlib.Core.Bool.{Bool, true, false, not, ◌&&◌, ◌||◌}
use Prim.Native.Nat.{ℕ}
use lib.Dec.{eqb}
use Rattle.base.specs.Search.{every}
use Rattle.base.specs.Steps.{any_below}
use Rattle.base.proofs.SearchLaws.{every-same}
use Rattle.base.proofs.AnyLaws.{not-any}
use Rattle.tables.specs.Rows.{Picture, arrow_count, arrow_at}
use Rattle.tables.specs.declared.Arrow.{Arrow}
use Rattle.meaning.specs.Meaning.{has_mode, reaches, overrides, hits, certifies}

module _ (pic : Picture) (m u f : ℕ) where
  -- an arrow that hits is a certificate unless an opposite one hits that it does not override
  pub certifies-unless : (s o k : ℕ) → certifies pic m s o u f k
      ≡ (hits pic m s u f k
      && not (any_below (λ j. hits pic m o u f j && not (overrides pic (arrow_at pic.arrows k) (arrow_at pic.arrows j))) (arrow_count pic.arrows)))
  unfolding certifies
  certifies-unless s o k =
      ap (λ (b : Bool). hits pic m s u f k && b)
      (every-same (λ j. not (hits pic m o u f j) || over j) (λ j. not (hits pic m o u f j && not (over j))) (arrow_count pic.arrows)
      (λ j l. either (hits pic m o u f j) (over j))
      ∙ not-any (λ j. hits pic m o u f j && not (over j)) (arrow_count pic.arrows))
    where
      over : ℕ → Bool
      over j = overrides pic (arrow_at pic.arrows k) (arrow_at pic.arrows j)

      either : (a b : Bool) → (not a || b) ≡ not (a && not b)
      either true true = refl
      either true false = refl
      either false b = refl

  -- an arrow and its repeat are certificates of the same pairs
  pub certifies-repeat : (s o k j : ℕ) → arrow_at pic.arrows k ≡ arrow_at pic.arrows j → certifies pic m s o u f k ≡ certifies pic m s o u f j
  unfolding certifies hits has_mode
  certifies-repeat s o k j e = ap (λ (a : Arrow). (eqb a.mode m && (eqb a.sign s && reaches pic a u f))
      && every (λ i. not (hits pic m o u f i) || overrides pic a (arrow_at pic.arrows i)) (arrow_count pic.arrows)) e
