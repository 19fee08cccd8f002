-- Which modes have arrows of both signs: `clashing`, and that a mode without arrows of a sign has no unclear pair. Assumes nothing.
use mathlib.Core.Path.{◌≡◌, refl, sym, ap, ap₂, ◌∙◌}
use mathlib.Core.Bool.{Bool, true, false, ◌&&◌, ◌||◌}
use mathlib.Core.List.{List}
use Rattle.std.specs.Prelude.{None as none}
use Prim.Native.Nat.{ℕ, ◌+◌, ◌≤◌}
use native.Mathlib.Omega.{arith}
use native.Mathlib.Decide.{ℕ_discrete}
use lib.Dec.{eqb}
use borrow.Author.Tests.{eq-eqb, ne_eqb}
use Rattle.base.specs.Buffers.{zeros}
use Rattle.base.proofs.Tests.{T_and, T-eqb, false-not}
use Rattle.base.proofs.AnyLaws.{any-is, any-zero, any-more}
use Rattle.tables.specs.Rows.{Picture, arrow_count, arrow_at}
use Rattle.boxsets.specs.Sets.{is_in, has, set_at, Added}
use Rattle.boxsets.specs.declared.Set.{Set}
use Rattle.boxsets.proofs.TableLaws.{has_in, zeros-has}
use Rattle.meaning.specs.Meaning.{positive, negative, has_mode}
use Rattle.meaning.specs.Pairs.{unclear_fault}
use Rattle.meaning.proofs.ModeLaws.{has_mode-is}
use Rattle.meaning.proofs.AnswerLaws.{hit-mode, hit-sign}
use Rattle.meaning.proofs.SettleLaws.{unclear-hits}
use Rattle.meaning.proofs.ClearLaws.{all-clear}
use Rattle.judging.specs.Steps.{sign_below, sign_used}

-- ---- the table of two sets

module _ (arrows : List ℕ) where
  -- set s has the modes of the arrows of sign s below n
  abbrev pub SignsBelow : (n : ℕ) (signs : List ℕ) → Type 0
  SignsBelow n signs = (s m : ℕ) → has signs s m ≡ sign_below arrows n m s

  pub signs-none : SignsBelow 0 (zeros 8)
  unfolding sign_below
  signs-none s m = zeros-has 8 s m ∙ sym (any-zero (λ k. has_mode arrows m k && eqb (arrow_at arrows k).sign s))

  flip : (a b : ℕ) → eqb a b ≡ eqb b a
  flip a b = go (ℕ_discrete a b)
    where
      go : Dec (a ≡ b) → eqb a b ≡ eqb b a
      go (yes e) = eq-eqb a b e ∙ sym (eq-eqb b a (sym e))
      go (no n) = ne_eqb a b n ∙ sym (ne_eqb b a (λ e. n (sym e)))

  swap : (a b : Bool) → (a && b) ≡ (b && a)
  swap true true = refl
  swap true false = refl
  swap false true = refl
  swap false false = refl

  pub signs-more : (n : ℕ) (signs more : List ℕ) → Added signs (arrow_at arrows n).sign (arrow_at arrows n).mode more
      → SignsBelow n signs → SignsBelow (n + 1) more
  unfolding sign_below
  signs-more n signs more added before s m =
      added.each s m
      ∙ ap₂ ◌||◌ (before s m)
      (ap₂ ◌&&◌ (flip s (arrow_at arrows n).sign) (flip m (arrow_at arrows n).mode ∙ sym (has_mode-is arrows m n))
      ∙ swap (eqb (arrow_at arrows n).sign s) (has_mode arrows m n))
      ∙ sym (any-more (λ k. has_mode arrows m k && eqb (arrow_at arrows k).sign s) n)

-- ---- a mode without arrows of one sign

module _ (pic : Picture) (m : ℕ) where
  lacks-sign : (s : ℕ) → s ≤ 1 → sign_used pic.arrows m s ≡ false → unclear_fault pic m ≡ none
  unfolding sign_below
  lacks-sign s small lacks =
      all-clear pic m
      (λ u f x y h.
      let (k, l, t) = unclear-hits pic m u f h s small in
      false-not _ lacks
      (any-is (λ j. has_mode pic.arrows m j && eqb (arrow_at pic.arrows j).sign s) (arrow_count pic.arrows) k l
      (T_and (has_mode pic.arrows m k) (eqb (arrow_at pic.arrows k).sign s)
      (rw has_mode-is (T-eqb (hit-mode pic m u f s k t))) (T-eqb (hit-sign pic m u f s k t)))))

  pub one-sign-clear : (sign_used pic.arrows m negative && sign_used pic.arrows m positive) ≡ false → unclear_fault pic m ≡ none
  one-sign-clear e = go (sign_used pic.arrows m negative) refl e
    where
      go : (b : Bool) → sign_used pic.arrows m negative ≡ b → (b && sign_used pic.arrows m positive) ≡ false → unclear_fault pic m ≡ none
      go true i e = lacks-sign positive (omega arith) e
      go false i e = lacks-sign negative (omega arith) i

-- what `clashing` gives
pub clashing-is : (arrows signs : List ℕ) → SignsBelow arrows (arrow_count arrows) signs → (x y r : Set)
    → x ≡ set_at signs 0 → y ≡ set_at signs 1
    → ((m : ℕ) → is_in r m ≡ (is_in x m && is_in y m))
    → (m : ℕ) → is_in r m ≡ (sign_used arrows m negative && sign_used arrows m positive)
clashing-is arrows signs all x y r ex ey told m =
    told m
    ∙ ap₂ ◌&&◌
    (ap (λ (z : Set). is_in z m) ex ∙ sym (has_in signs 0 m) ∙ all negative m)
    (ap (λ (z : Set). is_in z m) ey ∙ sym (has_in signs 1 m) ∙ all positive m)
