-- The heads and the tails of a mode's arrows, and its arrows that hit a pair. Assumes nothing.
use mathlib.Core.Path.{◌≡◌, refl, sym, ◌∙◌}
use mathlib.Core.Bool.{Bool, true, false, ◌&&◌}
use mathlib.Core.List.{List}
use Prim.Native.Nat.{ℕ, ◌<◌}
use lib.Dec.{T, eqb, eqb→eq}
use lib.ListN.{length}
use Rattle.base.specs.Steps.{any_below}
use Rattle.base.proofs.Tests.{and_T, T_and, T-eqb}
use Rattle.base.proofs.AnyLaws.{any_found, any-is, any_same, any-and, any-image}
use Rattle.tables.specs.Rows.{Picture, user, file, arrow_count, arrow_at}
use Rattle.tables.specs.Steps.{SoundArrows}
use Rattle.tables.proofs.GroupLaws.{on_side-there}
use Rattle.containment.specs.Contains.{around}
use Rattle.meaning.specs.Meaning.{has_mode, hits}
use Rattle.meaning.proofs.ModeLaws.{hits-ends}
use Rattle.mode_sets.specs.Mode.{leaves, heads_below, heads_of, tails_below}

-- ---- boxes of sound arrows are boxes of the picture

module _ (boxes arrows : List ℕ) (sound : SoundArrows boxes arrows) (k : ℕ) (l : k < arrow_count arrows) where
  pub tail-there : (arrow_at arrows k).tail < length boxes
  tail-there = on_side-there boxes user (arrow_at arrows k).tail (sound.tail-user k l)

  pub head-there : (arrow_at arrows k).head < length boxes
  head-there = on_side-there boxes file (arrow_at arrows k).head (sound.head-file k l)

module _ (arrows : List ℕ) (m : ℕ) where
  -- ---- the arrows of a sign from some tails, and their heads

  module _ (s : ℕ) (tails : ℕ → Bool) (k : ℕ) where
    pub leaves-parts : leaves arrows m s tails k ≡ (has_mode arrows m k && (eqb (arrow_at arrows k).sign s && tails (arrow_at arrows k).tail))
    unfolding leaves
    leaves-parts = refl

    pub leaves-has : T (has_mode arrows m k) → (arrow_at arrows k).sign ≡ s → T (tails (arrow_at arrows k).tail) → T (leaves arrows m s tails k)
    unfolding leaves
    leaves-has mode-is sign-is tail-is =
        T_and (has_mode arrows m k) (eqb (arrow_at arrows k).sign s && tails (arrow_at arrows k).tail) mode-is
        (T_and (eqb (arrow_at arrows k).sign s) (tails (arrow_at arrows k).tail) (T-eqb sign-is) tail-is)

    pub heads-any : (g : ℕ) → heads_below arrows m k s tails g ≡ any_below (λ j. leaves arrows m s tails j && eqb (arrow_at arrows j).head g) k
    unfolding heads_below
    heads-any g = refl

  -- ---- each head and each tail comes from an arrow

  pub heads-bound : (boxes : List ℕ) → SoundArrows boxes arrows → (s : ℕ) (tails : ℕ → Bool) (g : ℕ)
      → T (heads_of arrows m s tails g) → g < length boxes
  unfolding heads_below
  heads-bound boxes sound s tails g t =
      let r = any_found (λ j. leaves arrows m s tails j && eqb (arrow_at arrows j).head g) (arrow_count arrows) t in
      let b = and_T (leaves arrows m s tails r.0) (eqb (arrow_at arrows r.0).head g) r.2 in
      rw (← eqb→eq (arrow_at arrows r.0).head g b.1) (head-there boxes arrows sound r.0 r.1)

  -- a box with a head has an arrow of its own
  heads-tail : (k s t g : ℕ) → T (heads_below arrows m k s (λ x. eqb x t) g) → T (tails_below arrows m k s t)
  unfolding heads_below tails_below
  heads-tail k s t g h =
      let r = any_found (λ j. leaves arrows m s (λ x. eqb x t) j && eqb (arrow_at arrows j).head g) k h in
      any-is (leaves arrows m s (λ x. eqb x t)) k r.0 r.1
      (and_T (leaves arrows m s (λ x. eqb x t) r.0) (eqb (arrow_at arrows r.0).head g) r.2).0

  -- ---- the heads from some tails, tail by tail

  module _ (s : ℕ) (tails : ℕ → Bool) (g : ℕ) where
    -- arrow j of the mode and the sign has head g, and t is one of the tails
    abbrev from : ℕ → ℕ → Bool
    from j t = ((has_mode arrows m j && eqb (arrow_at arrows j).sign s) && eqb (arrow_at arrows j).head g) && tails t

    by-tail : (t : ℕ) → ((tails t && tails_below arrows m (arrow_count arrows) s t) && heads_of arrows m s (λ x. eqb x t) g)
        ≡ any_below (λ j. eqb (arrow_at arrows j).tail t && from j t) (arrow_count arrows)
    unfolding heads_below leaves
    by-tail t =
        tails-only (tails t) (tails_below arrows m (arrow_count arrows) s t) (heads_of arrows m s (λ x. eqb x t) g) (heads-tail (arrow_count arrows) s t g)
        ∙ sym (any-and (λ j. leaves arrows m s (λ x. eqb x t) j && eqb (arrow_at arrows j).head g) (tails t) (arrow_count arrows))
        ∙ any_same _ _ (arrow_count arrows)
        (λ j l. tail-first (has_mode arrows m j) (eqb (arrow_at arrows j).sign s) (eqb (arrow_at arrows j).tail t)
        (eqb (arrow_at arrows j).head g) (tails t))
      where
        tails-only : (a b c : Bool) → (T c → T b) → ((a && b) && c) ≡ (c && a)
        tails-only true true true h = refl
        tails-only true true false h = refl
        tails-only true false true h = absurd (h tt)
        tails-only true false false h = refl
        tails-only false b true h = refl
        tails-only false b false h = refl

        tail-first : (a b c d e : Bool) → (((a && (b && c)) && d) && e) ≡ (c && (((a && b) && d) && e))
        tail-first true true true d e = refl
        tail-first true true false d e = refl
        tail-first true false true d e = refl
        tail-first true false false d e = refl
        tail-first false b true d e = refl
        tail-first false b false d e = refl

    pub heads-by-tail : (n : ℕ) → ((k : ℕ) → k < arrow_count arrows → (arrow_at arrows k).tail < n)
        → any_below (λ t. (tails t && tails_below arrows m (arrow_count arrows) s t) && heads_of arrows m s (λ x. eqb x t) g) n
        ≡ heads_of arrows m s tails g
    unfolding heads_below leaves
    heads-by-tail n there =
        any_same (λ t. (tails t && tails_below arrows m (arrow_count arrows) s t) && heads_of arrows m s (λ x. eqb x t) g)
        (λ t. any_below (λ j. eqb (arrow_at arrows j).tail t && from j t) (arrow_count arrows)) n (λ t l. by-tail t)
        ∙ any-image (λ j. (arrow_at arrows j).tail) from (arrow_count arrows) n there
        ∙ any_same (λ j. from j (arrow_at arrows j).tail) (λ j. leaves arrows m s tails j && eqb (arrow_at arrows j).head g) (arrow_count arrows)
        (λ j l. head-last (has_mode arrows m j) (eqb (arrow_at arrows j).sign s) (tails (arrow_at arrows j).tail) (eqb (arrow_at arrows j).head g))
      where
        head-last : (a b c d : Bool) → (((a && b) && d) && c) ≡ ((a && (b && c)) && d)
        head-last false b c d = refl
        head-last true false c d = refl
        head-last true true true true = refl
        head-last true true false true = refl
        head-last true true true false = refl
        head-last true true false false = refl

-- ---- the arrows that hit a pair

module _ (pic : Picture) (m : ℕ) where
  -- a hit is an arrow of the mode and the sign around the user, and its head is around the file
  pub hits-is : (s u f k : ℕ)
      → hits pic m s u f k ≡ (leaves pic.arrows m s (λ t. around pic.rows t u) k && around pic.rows (arrow_at pic.arrows k).head f)
  unfolding leaves
  hits-is s u f k =
      hits-ends pic m s u f k
      ∙ apart (has_mode pic.arrows m k) (eqb (arrow_at pic.arrows k).sign s) (around pic.rows (arrow_at pic.arrows k).tail u)
      (around pic.rows (arrow_at pic.arrows k).head f)
    where
      apart : (a b c d : Bool) → (a && (b && (c && d))) ≡ ((a && (b && c)) && d)
      apart true true c d = refl
      apart true false c d = refl
      apart false b c d = refl
