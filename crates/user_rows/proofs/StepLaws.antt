-- The small steps of a row: the granted files, and the lowest arrow that reaches a pair. Assumes nothing.
use mathlib.Core.Path.{◌≡◌, refl, sym, ap, ◌∙◌}
use mathlib.Core.Bool.{Bool, true, false, ◌&&◌, ◌||◌}
use mathlib.Core.List.{List}
use Rattle.std.specs.Prelude.{Option, None as none, Some as some}
use Prim.Native.Nat.{ℕ, ◌+◌, ◌<◌, ◌≤◌}
use native.Mathlib.Omega.{arith}
use borrow.Author.Count.{below_more}
use borrow.Author.Tests.{eq-eqb, ne_eqb}
use lib.Dec.{T, eqb, eqb→eq}
use lib.ListN.{length}
use Rattle.base.specs.Search.{lowest}
use Rattle.base.proofs.Tests.{T_and, and_T, T-eqb}
use Rattle.base.proofs.SelectLaws.{lowest-is, lowest-nothing}
use Rattle.tables.specs.Rows.{Picture, arrow_count, arrow_at}
use Rattle.tables.specs.declared.Arrow.{Arrow}
use Rattle.boxsets.specs.Sets.{is_in, has}
use Rattle.boxsets.specs.declared.Set.{Set}
use Rattle.meaning.specs.Meaning.{hits}
use Rattle.meaning.proofs.ModeLaws.{has_mode-is, hits-ends}
use Rattle.certificates.specs.Steps.{Drawn}

-- ---- the granted files, with those of a certificate

module _ (granted hit : Set) (sign : ℕ) where
  pub granted-more : (r : Set) → sign ≡ 1 → ((k : ℕ) → is_in r k ≡ (is_in granted k || is_in hit k))
      → (f : ℕ) → is_in r f ≡ (is_in granted f || (is_in hit f && eqb sign 1))
  granted-more r e h f = h f ∙ rw (eq-eqb sign 1 e) (ap (λ (x : Bool). is_in granted f || x) (go (is_in hit f)))
    where
      go : (b : Bool) → b ≡ (b && true)
      go true = refl
      go false = refl

  pub granted-same : (sign ≡ 1 → ⊥) → (f : ℕ) → is_in granted f ≡ (is_in granted f || (is_in hit f && eqb sign 1))
  granted-same n f = rw (ne_eqb sign 1 n) (go (is_in granted f) (is_in hit f))
    where
      go : (a b : Bool) → a ≡ (a || (b && false))
      go true b = refl
      go false true = refl
      go false false = refl

-- ---- the lowest arrow of a mode and a sign that reaches a pair

-- an arrow is such an arrow, by the closure
unfoldable pub hit_by : (closure : List ℕ) (mode sign u f : ℕ) (a : Arrow) → Bool
hit_by closure mode sign u f a =
    eqb a.mode mode && (eqb a.sign sign && (has closure (256 + u) a.tail && has closure (256 + f) a.head))

-- what is promised of the result
abbrev pub FirstHit : (closure arrows : List ℕ) (mode sign u f : ℕ) (r : Option ℕ) → Type 0
FirstHit closure arrows mode sign u f r =
    (pic : Picture) → Drawn pic closure → arrows ≡ pic.arrows → u < length pic.boxes → f < length pic.boxes
    → r ≡ lowest (hits pic mode sign u f) (arrow_count pic.arrows)

module _ (closure : List ℕ) (mode sign u f : ℕ) (a : Arrow) where
  pub hit-parts : T (hit_by closure mode sign u f a)
      → (a.mode ≡ mode) × (a.sign ≡ sign) × T (has closure (256 + u) a.tail) × T (has closure (256 + f) a.head)
  unfolding hit_by
  hit-parts t =
      let tail = has closure (256 + u) a.tail in
      let head = has closure (256 + f) a.head in
      let p = and_T (eqb a.mode mode) (eqb a.sign sign && (tail && head)) t in
      let q = and_T (eqb a.sign sign) (tail && head) p.1 in
      let r = and_T tail head q.1 in
      (eqb→eq a.mode mode p.0, eqb→eq a.sign sign q.0, r.0, r.1)

  pub hit-is : a.mode ≡ mode → a.sign ≡ sign → T (has closure (256 + u) a.tail) → T (has closure (256 + f) a.head)
      → T (hit_by closure mode sign u f a)
  unfolding hit_by
  hit-is em es t h =
      let tail = has closure (256 + u) a.tail in
      let head = has closure (256 + f) a.head in
      T_and (eqb a.mode mode) (eqb a.sign sign && (tail && head)) (T-eqb em)
      (T_and (eqb a.sign sign) (tail && head) (T-eqb es) (T_and tail head t h))

module _ (closure arrows : List ℕ) (mode sign u f : ℕ) where
  -- none of the arrows before k
  abbrev pub NoHit : ℕ → Type 0
  NoHit k = (j : ℕ) → j < k → T (hit_by closure mode sign u f (arrow_at arrows j)) → ⊥

  pub hit-more : (k : ℕ) (a : Arrow) → a ≡ arrow_at arrows k → (T (hit_by closure mode sign u f a) → ⊥) → NoHit k → NoHit (k + 1)
  hit-more k a e n before = below_more (λ j. T (hit_by closure mode sign u f (arrow_at arrows j)) → ⊥) k before (λ t. n (rw e t))

  hits-by : (pic : Picture) → Drawn pic closure → arrows ≡ pic.arrows → u < length pic.boxes → f < length pic.boxes
      → (k : ℕ) → hits pic mode sign u f k ≡ hit_by closure mode sign u f (arrow_at arrows k)
  unfolding hit_by
  hits-by pic d e lu lf k =
      hits-ends pic mode sign u f k
      ∙ rw (e, has_mode-is, d.closed.up (arrow_at pic.arrows k).tail u lu, d.closed.up (arrow_at pic.arrows k).head f lf)

  pub hit-here : (k : ℕ) (a : Arrow) → a ≡ arrow_at arrows k → k < arrow_count arrows → T (hit_by closure mode sign u f a) → NoHit k
      → FirstHit closure arrows mode sign u f (some k)
  hit-here k a i l t before pic d e lu lf =
      let by = hits-by pic d e lu lf in
      sym (lowest-is (hits pic mode sign u f) (arrow_count pic.arrows) k (rw (← e) l) (rw (by k, ← i) t)
      (λ j h p. before j h (rw (by j) at p)))

  pub hit-nowhere : (k : ℕ) → arrow_count arrows ≤ k → NoHit k → FirstHit closure arrows mode sign u f none
  hit-nowhere k l before pic d e lu lf =
      let by = hits-by pic d e lu lf in
      sym (lowest-nothing (hits pic mode sign u f) (arrow_count pic.arrows)
      (λ j h p. before j (omega (arith, h, ap arrow_count e)) (rw (by j) at p)))
