-- A test at users and files. Assumes nothing.
use mathlib.Core.Path.{◌≡◌, refl, sym}
use mathlib.Core.Bool.{Bool, true, false, not, ◌&&◌}
use Prim.Native.Nat.{ℕ, ◌<◌}
use lib.Dec.{T, eqb}
use Rattle.base.specs.Steps.{any_below}
use Rattle.base.proofs.Tests.{and_T, T_and, T_true, not-false, false-not}
use Rattle.base.proofs.AnyLaws.{any_found, any-is}
use Rattle.boxsets.specs.Sets.{is_in, low}
use Rattle.boxsets.specs.declared.Set.{Set}
use Rattle.boxsets.proofs.WalkLaws.{in-below, empty-none, some-low}
use Rattle.list_standing.specs.Steps.{some_in}

-- one of the files at which the test holds
abbrev pub row_in : (files : Set) (test : ℕ → Bool) → Bool
row_in files test = any_below (λ f. is_in files f && test f) 256

row-found : (files : Set) (test : ℕ → Bool) → T (row_in files test) → (f : ℕ) × T (is_in files f) × T (test f)
row-found files test t =
    let r = any_found (λ f. is_in files f && test f) 256 t in
    let b = and_T (is_in files r.0) (test r.0) r.2 in
    (r.0, b.0, b.1)

row_is : (files : Set) (test : ℕ → Bool) (f : ℕ) → T (is_in files f) → T (test f) → T (row_in files test)
row_is files test f i t = any-is (λ f. is_in files f && test f) 256 f (in-below files f i) (T_and (is_in files f) (test f) i t)

-- the set of these files is empty exactly if there is none
pub row-empty : (files : Set) (test : ℕ → Bool) (x : Set) → ((f : ℕ) → is_in x f ≡ (is_in files f && test f))
    → not (eqb (low x) 256) ≡ row_in files test
row-empty files test x are = go (eqb (low x) 256) refl
  where
    go : (b : Bool) → eqb (low x) 256 ≡ b → not b ≡ row_in files test
    go true e =
        sym (not-false (row_in files test)
        (λ t.
        let r = row-found files test t in
        false-not (is_in x r.0) (empty-none x e r.0) (rw (are r.0) (T_and (is_in files r.0) (test r.0) r.1 r.2))))
    go false e =
        let l = some-low x e in
        let b = and_T (is_in files (low x)) (test (low x)) (rw (are (low x)) at l.1) in
        sym (T_true (row_in files test) (row_is files test (low x) b.0 b.1))

module _ (files : Set) (test : ℕ → ℕ → Bool) where
  pub some-found : (users : ℕ → Bool) → T (some_in users files test) → (u f : ℕ) × T (users u) × T (is_in files f) × T (test u f)
  unfolding some_in
  some-found users t =
      let r = any_found (λ u. users u && row_in files (test u)) 256 t in
      let b = and_T (users r.0) (row_in files (test r.0)) r.2 in
      let s = row-found files (test r.0) b.1 in
      (r.0, s.0, b.0, s.1, s.2)

  pub some_is : (users : ℕ → Bool) (u f : ℕ) → u < 256 → T (users u) → T (is_in files f) → T (test u f) → T (some_in users files test)
  unfolding some_in
  some_is users u f l i j t =
      any-is (λ u. users u && row_in files (test u)) 256 u l (T_and (users u) (row_in files (test u)) i (row_is files (test u) f j t))
