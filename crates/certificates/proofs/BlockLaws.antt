-- At which files of a row an arrow is a certificate: those in its head that are in no head of an opposite arrow around the user
-- which it does not override. Assumes nothing.
use mathlib.Core.Path.{◌≡◌, refl, sym, ap, ap₂, subst, ◌∙◌}
use mathlib.Core.Bool.{Bool, true, false, not, ◌&&◌, ◌||◌, and-false}
use Prim.Native.Nat.{ℕ}
use lib.Dec.{T, eqb, eqb→eq}
use Rattle.base.specs.Steps.{any_below}
use Rattle.base.proofs.Tests.{and_T, T_true, true-T}
use Rattle.base.proofs.AnyLaws.{any-within, any_same, any-or, any-and}
use Rattle.tables.specs.Rows.{Picture, arrow_count, arrow_at}
use Rattle.tables.specs.Steps.{SoundArrows}
use Rattle.tables.specs.declared.Arrow.{Arrow}
use Rattle.containment.specs.Contains.{around}
use Rattle.meaning.specs.Meaning.{has_mode, nests, overrides, hits, certifies}
use Rattle.meaning.proofs.AnswerLaws.{overrides-is}
use Rattle.meaning.proofs.CertificateLaws.{certifies-unless}
use Rattle.mode_sets.specs.Mode.{leaves, heads_of}
use Rattle.mode_sets.proofs.HeadLaws.{hits-is, leaves-parts, heads-any}
use Rattle.certificates.specs.Blocks.{in_one, blocks, certified, reached_by}
use Rattle.certificates.proofs.ReachLaws.{in-heads}

-- ---- "does not override", by the four tests of nesting

pub not-overrides : (pic : Picture) (p n : Arrow) → not (overrides pic p n)
    ≡ (nests pic p.head n.head
    || (nests pic p.tail n.tail || (not (nests pic n.tail p.tail) && not (nests pic n.head p.head))))
not-overrides pic p n =
    ap not (overrides-is pic p n)
    ∙ split (nests pic p.tail n.tail) (nests pic p.head n.head) (nests pic n.tail p.tail) (nests pic n.head p.head)
  where
    split : (a b c d : Bool) → not (not (a || b) && (c || d)) ≡ (b || (a || (not c && not d)))
    split true true c d = refl
    split true false c d = refl
    split false true c d = refl
    split false false true d = refl
    split false false false true = refl
    split false false false false = refl

module _ (pic : Picture) (m o u : ℕ) (p : Arrow) where
  -- the tails around u, those of them nested in p's, and those that p's is not nested in
  abbrev around-u : ℕ → Bool
  around-u t = around pic.rows t u

  abbrev inner : ℕ → Bool
  inner t = around pic.rows t u && nests pic p.tail t

  abbrev level : ℕ → Bool
  level t = around pic.rows t u && not (nests pic t p.tail)

  -- arrow j of sign o is from such a tail, and has head g
  abbrev goes : (tails : ℕ → Bool) (g j : ℕ) → Bool
  goes tails g j = leaves pic.arrows m o tails j && eqb (arrow_at pic.arrows j).head g

  -- arrow j is of sign o and around u, and p does not override it
  abbrev pub stays : ℕ → Bool
  stays j = leaves pic.arrows m o around-u j && not (overrides pic p (arrow_at pic.arrows j))

  -- for one arrow, the three parts of `blocks` are together "p does not override it"
  parts_stay : (g j : ℕ)
      → (goes around-u g j && nests pic p.head g || (goes inner g j || goes level g j && not (nests pic g p.head)))
      ≡ (stays j && eqb (arrow_at pic.arrows j).head g)
  parts_stay g j = go (eqb a.head g) refl
    where
      a : Arrow
      a = arrow_at pic.arrows j

      yes-part : (x y z n1 n2 n3 n4 : Bool)
          → (((x && (y && z)) && true) && n1 || (((x && (y && (z && n2))) && true) || ((x && (y && (z && not n3))) && true) && not n4))
          ≡ (((x && (y && z)) && (n1 || (n2 || (not n3 && not n4)))) && true)
      yes-part false y z n1 n2 n3 n4 = refl
      yes-part true false z n1 n2 n3 n4 = refl
      yes-part true true false n1 n2 n3 n4 = refl
      yes-part true true true true n2 n3 n4 = refl
      yes-part true true true false true n3 n4 = refl
      yes-part true true true false false true n4 = refl
      yes-part true true true false false false true = refl
      yes-part true true true false false false false = refl

      go : (b : Bool) → eqb a.head g ≡ b
          → ((leaves pic.arrows m o around-u j && b) && nests pic p.head g
          || ((leaves pic.arrows m o inner j && b) || (leaves pic.arrows m o level j && b) && not (nests pic g p.head)))
          ≡ (stays j && b)
      go false e = simp and-false
      go true e =
          let not-over = subst
          (λ (z : ℕ). not (overrides pic p a)
          ≡ (nests pic p.head z || (nests pic p.tail a.tail || (not (nests pic a.tail p.tail) && not (nests pic z p.head)))))
          (eqb→eq a.head g (true-T (eqb a.head g) e)) (not-overrides pic p a) in
          rw (not-over, leaves-parts pic.arrows m o around-u j, leaves-parts pic.arrows m o inner j, leaves-parts pic.arrows m o level j)
          (yes-part (has_mode pic.arrows m j) (eqb a.sign o) (around pic.rows a.tail u) (nests pic p.head g)
          (nests pic p.tail a.tail) (nests pic a.tail p.tail) (nests pic g p.head))

  blocks_is : (g : ℕ)
      → blocks pic m o u p g ≡ any_below (λ j. stays j && eqb (arrow_at pic.arrows j).head g) (arrow_count pic.arrows)
  unfolding blocks
  blocks_is g =
      rw (heads around-u, heads inner, heads level)
      (ap₂ ◌||◌ (sym (any-and (goes around-u g) (nests pic p.head g) count))
      (ap (λ (b : Bool). any_below (goes inner g) count || b) (sym (any-and (goes level g) (not (nests pic g p.head)) count))
      ∙ sym (any-or (goes inner g) (λ j. goes level g j && not (nests pic g p.head)) count))
      ∙ sym (any-or (λ j. goes around-u g j && nests pic p.head g) (λ j. goes inner g j || goes level g j && not (nests pic g p.head)) count)
      ∙ any_same _ _ count (λ j l. parts_stay g j))
    where
      count : ℕ
      count = arrow_count pic.arrows

      heads : (tails : ℕ → Bool) → heads_of pic.arrows m o tails g ≡ any_below (goes tails g) count
      heads tails = heads-any pic.arrows m o tails count g

  -- ---- the files in one of these heads

  module _ (sound : SoundArrows pic.boxes pic.arrows) (f : ℕ) where
    pub blocked-is : in_one pic (blocks pic m o u p) f
        ≡ any_below (λ j. hits pic m o u f j && not (overrides pic p (arrow_at pic.arrows j))) (arrow_count pic.arrows)
    blocked-is =
        in-heads pic sound (blocks pic m o u p) stays blocks_is f
        ∙ any_same _ _ (arrow_count pic.arrows)
        (λ j l.
        turned (leaves pic.arrows m o around-u j) (not (overrides pic p (arrow_at pic.arrows j))) (around pic.rows (arrow_at pic.arrows j).head f)
        ∙ ap (λ (b : Bool). b && not (overrides pic p (arrow_at pic.arrows j))) (sym (hits-is pic m o u f j)))
      where
        turned : (a b c : Bool) → ((a && b) && c) ≡ ((a && c) && b)
        turned true true true = refl
        turned true true false = refl
        turned true false true = refl
        turned true false false = refl
        turned false b c = refl

    -- a file that is in one of them is reached by the sign
    pub blocked-reached : T (in_one pic (blocks pic m o u p) f) → T (reached_by pic m o u f)
    unfolding reached_by
    blocked-reached t =
        any-within (λ j. hits pic m o u f j && not (overrides pic p (arrow_at pic.arrows j))) (hits pic m o u f) (arrow_count pic.arrows)
        (λ j l h. (and_T (hits pic m o u f j) (not (overrides pic p (arrow_at pic.arrows j))) h).0) (subst T blocked-is t)

-- ---- the files of a row at which an arrow is a certificate

pub certified-is : (pic : Picture) → SoundArrows pic.boxes pic.arrows → (m s o u f k : ℕ)
    → T (leaves pic.arrows m s (λ t. around pic.rows t u) k)
    → certifies pic m s o u f k ≡ certified pic m o u (arrow_at pic.arrows k) f
unfolding certified
certified-is pic sound m s o u f k lv =
    certifies-unless pic m u f s o k
    ∙ ap₂ ◌&&◌ head-only (ap not (sym (blocked-is pic m o u (arrow_at pic.arrows k) sound f)))
  where
    head-only : hits pic m s u f k ≡ around pic.rows (arrow_at pic.arrows k).head f
    head-only = hits-is pic m s u f k ∙ rw (T_true (leaves pic.arrows m s (λ t. around pic.rows t u) k) lv)

-- ---- the two ways of `certified`: the files that no opposite arrow reaches are taken as they are

module _ (pic : Picture) (m o u : ℕ) (p : Arrow) (sound : SoundArrows pic.boxes pic.arrows) (f : ℕ) (left asked hit met : Bool)
    (within : T left → T asked) (hit-is : hit ≡ (around pic.rows p.head f && left))
    (met-is : met ≡ (hit && (asked && reached_by pic m o u f))) where
  pub certified-met : (r : Bool) → r ≡ ((hit && not met) || (met && not (in_one pic (blocks pic m o u p) f)))
      → r ≡ (left && certified pic m o u p f)
  unfolding certified
  certified-met r e =
      e
      ∙ rw (met-is, hit-is)
      (whole (around pic.rows p.head f) left asked (reached_by pic m o u f) (in_one pic (blocks pic m o u p) f)
      within (blocked-reached pic m o u p sound f))
    where
      whole : (h l a r b : Bool) → (T l → T a) → (T b → T r)
          → (((h && l) && not ((h && l) && (a && r))) || (((h && l) && (a && r)) && not b)) ≡ (l && (h && not b))
      whole false true a r b i j = refl
      whole false false a r b i j = refl
      whole true false a r b i j = refl
      whole true true false r b i j = absurd (i tt)
      whole true true true true b i j = refl
      whole true true true false true i j = absurd (j tt)
      whole true true true false false i j = refl

  pub certified-unmet : met ≡ false → hit ≡ (left && certified pic m o u p f)
  certified-unmet e = certified-met hit (rw e (whole hit))
    where
      whole : (h : Bool) → h ≡ ((h && true) || false)
      whole true = refl
      whole false = refl
