-- The files that are in none of some boxes, box by box. Assumes nothing.
use mathlib.Core.Path.{◌≡◌, refl, sym, ap, subst, ◌∙◌}
use mathlib.Core.Logic.{⊎_elim}
use mathlib.Core.Bool.{Bool, true, false, not, ◌&&◌, ◌||◌}
use mathlib.Core.List.{List}
use Prim.Native.Nat.{ℕ, ◌<◌}
use lib.Dec.{T, not_T, eqb, eqb→eq}
use lib.ListN.{length}
use Rattle.base.proofs.Tests.{T?, or-T, T-or₁, T-or₂, and_T, T_and, T-same, not-false, false-not}
use Rattle.base.proofs.AnyLaws.{any_found, any-is, any_same, any-or}
use Rattle.tables.specs.Rows.{Picture}
use Rattle.containment.specs.Contains.{around}
use Rattle.containment.proofs.ContainsLaws.{around-cases, around-self, contains-around, contains-trans}
use Rattle.certificates.specs.Blocks.{in_one}

-- around is transitive
pub around-trans : (rows : List ℕ) (a b c : ℕ) → T (around rows a b) → T (around rows b c) → T (around rows a c)
around-trans rows a b c x y =
    ⊎_elim
    (λ e. subst (λ (z : ℕ). T (around rows z c)) (sym e) y)
    (λ h.
    ⊎_elim
    (λ e. subst (λ (z : ℕ). T (around rows a z)) e x)
    (λ k. contains-around rows a c (contains-trans rows a b c h k))
    (around-cases rows b c y))
    (around-cases rows a b x)

module _ (pic : Picture) where
  in-found : (boxes : ℕ → Bool) (f : ℕ) → T (in_one pic boxes f) → (g : ℕ) × (g < length pic.boxes) × T (boxes g) × T (around pic.rows g f)
  unfolding in_one
  in-found boxes f t =
      let r = any_found (λ g. boxes g && around pic.rows g f) (length pic.boxes) t in
      let b = and_T (boxes r.0) (around pic.rows r.0 f) r.2 in
      (r.0, r.1, b.0, b.1)

  in_is : (boxes : ℕ → Bool) (f g : ℕ) → g < length pic.boxes → T (boxes g) → T (around pic.rows g f) → T (in_one pic boxes f)
  unfolding in_one
  in_is boxes f g l t a =
      any-is (λ g. boxes g && around pic.rows g f) (length pic.boxes) g l (T_and (boxes g) (around pic.rows g f) t a)

  -- two sets of the same boxes
  pub in-same : (a b : ℕ → Bool) → ((g : ℕ) → a g ≡ b g) → (f : ℕ) → in_one pic a f ≡ in_one pic b f
  unfolding in_one
  in-same a b e f = any_same _ _ (length pic.boxes) (λ g l. ap (λ (x : Bool). x && around pic.rows g f) (e g))

  -- in a box of a union: in one of the first or in one of the second
  pub in_either : (a b : ℕ → Bool) (f : ℕ) → in_one pic (λ g. a g || b g) f ≡ (in_one pic a f || in_one pic b f)
  unfolding in_one
  in_either a b f =
      any_same _ _ (length pic.boxes) (λ g l. both (a g) (b g) (around pic.rows g f))
      ∙ any-or (λ g. a g && around pic.rows g f) (λ g. b g && around pic.rows g f) (length pic.boxes)
    where
      both : (x y z : Bool) → ((x || y) && z) ≡ ((x && z) || (y && z))
      both true y true = refl
      both true true false = refl
      both true false false = refl
      both false y z = refl

  -- where no box is left, no file is in one
  pub in-none : (boxes : ℕ → Bool) → ((g : ℕ) → boxes g ≡ false) → (f : ℕ) → in_one pic boxes f ≡ false
  in-none boxes e f = not-false (in_one pic boxes f) (λ t. let r = in-found boxes f t in false-not (boxes r.0) (e r.0) r.2)

  -- box b is taken from the boxes with all boxes in it
  module _ (rest next : ℕ → Bool) (b : ℕ) (there : b < length pic.boxes) (in_rest : T (rest b))
      (taken : (g : ℕ) → next g ≡ ((rest g && not (eqb g b)) && not (around pic.rows b g))) where
    next-rest : (g : ℕ) → T (next g) → T (rest g)
    next-rest g t =
        (and_T (rest g) (not (eqb g b)) (and_T (rest g && not (eqb g b)) (not (around pic.rows b g)) (subst T (taken g) t)).0).0

    rest-next : (g : ℕ) → T (rest g) → (T (around pic.rows b g) → ⊥) → T (next g)
    rest-next g t n =
        subst T (sym (taken g))
        (T_and (rest g && not (eqb g b)) (not (around pic.rows b g))
        (T_and (rest g) (not (eqb g b)) t
        (not_T (eqb g b) (λ e. n (subst (λ (z : ℕ). T (around pic.rows b z)) (sym (eqb→eq g b e)) (around-self pic.rows b)))))
        (not_T (around pic.rows b g) n))

    in-turn : (f : ℕ) → in_one pic rest f ≡ (around pic.rows b f || in_one pic next f)
    in-turn f =
        T-same (in_one pic rest f) (around pic.rows b f || in_one pic next f)
        (λ t. let r = in-found rest f t in go r.0 r.1 r.2 r.3 (T? (around pic.rows b r.0)))
        (λ t.
        ⊎_elim (in_is rest f b there in_rest) (λ i. let r = in-found next f i in in_is rest f r.0 r.1 (next-rest r.0 r.2) r.3)
        (or-T (around pic.rows b f) (in_one pic next f) t))
      where
        go : (g : ℕ) → g < length pic.boxes → T (rest g) → T (around pic.rows g f) → Dec (T (around pic.rows b g))
            → T (around pic.rows b f || in_one pic next f)
        go g l t a (yes i) = T-or₁ (around pic.rows b f) (in_one pic next f) (around-trans pic.rows b g f i a)
        go g l t a (no n) = T-or₂ (around pic.rows b f) (in_one pic next f) (in_is next f g l (rest-next g t n) a)

    -- and all files in it from the files: what is left, less what the rest of the boxes will take, stays the same
    pub outside-turn : (left : Bool) (f : ℕ)
        → ((left && not (around pic.rows b f)) && not (in_one pic next f)) ≡ (left && not (in_one pic rest f))
    outside-turn left f = rw (in-turn f) (apart left (around pic.rows b f) (in_one pic next f))
      where
        apart : (a x y : Bool) → ((a && not x) && not y) ≡ (a && not (x || y))
        apart true true y = refl
        apart true false y = refl
        apart false x y = refl
