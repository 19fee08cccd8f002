-- Two users around whom the same arrows of the mode are get the same answers. Assumes nothing.
use mathlib.Core.Path.{◌≡◌, refl, ap}
use mathlib.Core.Bool.{Bool, true, false, ◌&&◌}
use Prim.Native.Nat.{ℕ, ◌<◌}
use lib.Dec.{T, eqb}
use Rattle.base.specs.Search.{implies}
use Rattle.base.proofs.SearchLaws.{lowest-same, every-same}
use Rattle.tables.specs.Rows.{Picture, arrow_count, arrow_at}
use Rattle.containment.specs.Contains.{around}
use Rattle.meaning.specs.Meaning.{positive, negative, has_mode, reaches, overrides, hits, certifies, answer}

module _ (pic : Picture) (m : ℕ) where
  -- an arrow of the mode is around one of the users exactly if it is around the other
  abbrev pub SameAround : (u v : ℕ) → Type 0
  SameAround u v = (k : ℕ) → k < arrow_count pic.arrows → T (has_mode pic.arrows m k)
      → around pic.rows (arrow_at pic.arrows k).tail u ≡ around pic.rows (arrow_at pic.arrows k).tail v

  module _ (u v : ℕ) (same : SameAround u v) where
    same-hits : (s f k : ℕ) → k < arrow_count pic.arrows → hits pic m s u f k ≡ hits pic m s v f k
    unfolding hits reaches
    same-hits s f k l = go (has_mode pic.arrows m k) (same k l)
      where
        go : (b : Bool) → (T b → around pic.rows (arrow_at pic.arrows k).tail u ≡ around pic.rows (arrow_at pic.arrows k).tail v)
            → (b && (eqb (arrow_at pic.arrows k).sign s
            && (around pic.rows (arrow_at pic.arrows k).tail u && around pic.rows (arrow_at pic.arrows k).head f)))
            ≡ (b && (eqb (arrow_at pic.arrows k).sign s
            && (around pic.rows (arrow_at pic.arrows k).tail v && around pic.rows (arrow_at pic.arrows k).head f)))
        go true e = rw (e tt)
        go false e = refl

    same-certifies : (s o f k : ℕ) → k < arrow_count pic.arrows → certifies pic m s o u f k ≡ certifies pic m s o v f k
    unfolding certifies
    same-certifies s o f k l =
        rw (same-hits s f k l)
        (ap (λ (b : Bool). hits pic m s v f k && b)
        (every-same _ _ (arrow_count pic.arrows)
        (λ j b. ap (λ (h : Bool). implies h (overrides pic (arrow_at pic.arrows k) (arrow_at pic.arrows j))) (same-hits o f j b))))

    pub same-user : (f : ℕ) → answer pic m u f ≡ answer pic m v f
    unfolding answer
    same-user f =
        rw (
          lowest-same _ _ (arrow_count pic.arrows) (same-certifies positive negative f),
          lowest-same _ _ (arrow_count pic.arrows) (same-certifies negative positive f),
          lowest-same _ _ (arrow_count pic.arrows) (same-hits positive f),
          lowest-same _ _ (arrow_count pic.arrows) (same-hits negative f),
        )
