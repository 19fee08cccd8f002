-- The first pair at which a test holds, row by row: a row is a user with all files; and the place of a file of a row. Assumes nothing.
use mathlib.Core.Path.{◌≡◌, refl, sym, ap, ap₂, subst, ◌∙◌}
use mathlib.Core.Logic.{inl, inr}
use mathlib.Core.Bool.{Bool}
use Rattle.std.specs.Prelude.{Option, None as none, Some as some}
use Prim.Native.Nat.{ℕ, ◌+◌, ◌*◌, ◌<◌}
use native.Mathlib.Omega.{arith}
use borrow.Author.Count.{below_more}
use lib.Dec.{T}
use lib.ListN.{length, get_or}
use Rattle.base.proofs.Index.{at-div, at-mod}
use Rattle.tables.specs.Rows.{Picture, user, file}
use Rattle.tables.specs.Atoms.{atom}
use Rattle.tables.specs.declared.Refusal.{Refusal}
use Rattle.tables.proofs.AtomPlaces.{atoms-found, atoms-has, atoms-before}
use Rattle.meaning.specs.Meaning.{answer}
use Rattle.meaning.specs.Pairs.{Before, users, files, user_at, file_at, answer_at}
use Rattle.meaning.specs.Steps.{first_pair}
use Rattle.meaning.proofs.PairLaws.{IsFirst, first_pair-none, first_pair-some}

-- where a file of a row stands
pub row-place : (pic : Picture) (m i j : ℕ) → j < length (files pic)
    → answer_at pic m (i * length (files pic) + j) ≡ answer pic m (get_or (users pic) i 0) (get_or (files pic) j 0)
unfolding answer_at user_at file_at
row-place pic m i j l = rw (at-div (length (files pic)) i j l, at-mod (length (files pic)) i j l)

module _ (pic : Picture) (t : ℕ → ℕ → Bool) where
  -- ---- from what the first pair is to the search, the other way round of `first_pair-some`

  module _ (r : ℕ → ℕ → Refusal) where
    pub first_pair-is : (u f : ℕ) → IsFirst pic t r u f → first_pair pic t r ≡ some (r u f)
    first_pair-is u f w = go (first_pair pic t r) refl
      where
        go : (x : Option Refusal) → first_pair pic t r ≡ x → x ≡ some (r u f)
        go none e = absurd (first_pair-none pic t r e u f w.a-user w.a-file w.holds)
        go (some x) e =
            let (v, g, i, z) = first_pair-some pic t r x e in
            let a : ¬ (u < v) = λ l. z.none_before u f w.a-user w.a-file (inl l) w.holds in
            let b : ¬ (v < u) = λ l. w.none_before v g z.a-user z.a-file (inl l) z.holds in
            let same-user : u ≡ v = omega arith in
            let c : ¬ (f < g) = λ l. z.none_before u f w.a-user w.a-file (inr (same-user, l)) w.holds in
            let d : ¬ (g < f) = λ l. w.none_before v g z.a-user z.a-file (inr (sym same-user, l)) z.holds in
            let same-file : f ≡ g = omega arith in
            ap some (sym i ∙ sym (ap₂ r same-user same-file))

    pub first_pair-nothing : ((u f : ℕ) → T (atom pic.boxes pic.rows user u) → T (atom pic.boxes pic.rows file f) → T (t u f) → ⊥)
        → first_pair pic t r ≡ none
    first_pair-nothing n = go (first_pair pic t r) refl
      where
        go : (x : Option Refusal) → first_pair pic t r ≡ x → x ≡ none
        go none e = refl
        go (some x) e = let (v, g, i, z) = first_pair-some pic t r x e in absurd (n v g z.a-user z.a-file z.holds)

  -- ---- a loop over the users

  -- no file of the first i users passes the test
  abbrev pub RowsClear : ℕ → Type 0
  RowsClear i =
      (j : ℕ) → j < i → (g : ℕ) → T (atom pic.boxes pic.rows file g) → T (t (get_or (users pic) j 0) g) → ⊥

  pub rows_start : RowsClear 0
  rows_start j l = absurd (omega arith)

  pub rows_more : (i : ℕ) → RowsClear i → ((g : ℕ) → T (atom pic.boxes pic.rows file g) → T (t (get_or (users pic) i 0) g) → ⊥)
      → RowsClear (i + 1)
  rows_more i before row =
      below_more (λ j. (g : ℕ) → T (atom pic.boxes pic.rows file g) → T (t (get_or (users pic) j 0) g) → ⊥) i before row

  -- f is the lowest file of row i that passes
  pub rows-found : (r : ℕ → ℕ → Refusal) (i : ℕ) → i < length (users pic) → RowsClear i → (f : ℕ)
      → T (atom pic.boxes pic.rows file f) → T (t (get_or (users pic) i 0) f)
      → ((g : ℕ) → g < f → T (atom pic.boxes pic.rows file g) → T (t (get_or (users pic) i 0) g) → ⊥)
      → first_pair pic t r ≡ some (r (get_or (users pic) i 0) f)
  rows-found r i l before f y h low =
      first_pair-is r (get_or (users pic) i 0) f
      (record {
        a-user = atoms-found pic.boxes pic.rows user i l;
        a-file = y;
        holds = h;
        none_before = earlier;
      })
    where
      earlier : (v g : ℕ) → T (atom pic.boxes pic.rows user v) → T (atom pic.boxes pic.rows file g)
          → Before v g (get_or (users pic) i 0) f → T (t v g) → ⊥
      earlier v g x z (inl k) s =
          let p = atoms-has pic.boxes pic.rows user v x in
          before p.0 (atoms-before pic.boxes pic.rows user p.0 i p.1 l (omega (arith, p.2))) g z
          (subst (λ (w : ℕ). T (t w g)) (sym p.2) s)
      earlier v g x z (inr k) s = low g k.1 z (subst (λ (w : ℕ). T (t w g)) k.0 s)

  -- no row has one
  pub rows_end : (r : ℕ → ℕ → Refusal) → RowsClear (length (users pic)) → first_pair pic t r ≡ none
  rows_end r clear =
      first_pair-nothing r
      (λ u f x y h.
      let p = atoms-has pic.boxes pic.rows user u x in
      clear p.0 p.1 f y (subst (λ (z : ℕ). T (t z f)) (sym p.2) h))
