-- What the tests of lists say; a list grown by arrows that can be added stays honest and has no arrow twice.
-- Assumes nothing.
use mathlib.Core.Path.{◌≡◌, refl, sym, ap, subst}
use mathlib.Core.Bool.{Bool, true, false, not, ◌&&◌, ◌||◌}
use mathlib.Core.List.{List, [], ◌∷◌, ◌++◌}
use Rattle.std.specs.Prelude.{Option, None as none, Some as some}
use Prim.Native.Nat.{ℕ, ◌<◌, ◌≤◌}
use native.Mathlib.Omega.{arith}
use lib.Dec.{T, T_not, not_T, ltb, ltb→lt}
use lib.ListN.{length}
use Rattle.base.specs.Search.{every, lowest, select}
use Rattle.tables.specs.Rows.{Picture, arrow_count, arrow_at}
use Rattle.tables.specs.declared.Arrow.{Arrow}
use Rattle.meaning.specs.Meaning.{has_mode, mode_arrows}
use Rattle.meaning.specs.Pairs.{pairs}
use Rattle.list_meaning.specs.Order.{passes, meets, reached, right, honest, any_of, all_of, distinct, first_of}
use Rattle.list_meaning.specs.Lists.{of_mode}
use Rattle.list_meaning.specs.Greedy.{new, fits, addable}
use Rattle.base.proofs.Tests.{T?, and_T, T_and}
use Rattle.base.proofs.SearchLaws.{lowest-some, lowest-none, every-at, every-is, some-none}
use Rattle.base.proofs.BufferLaws.{select-most}
use Rattle.base.proofs.SelectLaws.{select-within}
use Rattle.meaning.proofs.ModeLaws.{mode-select}
use Rattle.list_meaning.proofs.CountLaws.{all_of-snoc, distinct_snoc, any_of-has, room}
use Rattle.list_meaning.proofs.MatchLaws.{Honest, Fits, Full, honest-none, honest-snoc}

-- ---- tests

-- a implies b
pub implies : (a b : Bool) → (T a → T b) → T (not a || b)
implies true b g = g tt
implies false b g = tt

pub implied : (a b : Bool) → T (not a || b) → T a → T b
implied true b t h = t
implied false b t h = absurd h

passes_at : (t : ℕ → Bool) (o : Option ℕ) → T (passes t o) → (k : ℕ) → o ≡ some k → T (t k)
unfolding passes
passes_at t none h k e = absurd (some-none (sym e))
passes_at t (some j) h k e = let i : j ≡ k = cc in subst (λ (z : ℕ). T (t z)) i h

passes-is : (t : ℕ → Bool) (o : Option ℕ) → ((k : ℕ) → o ≡ some k → T (t k)) → T (passes t o)
unfolding passes
passes-is t none h = tt
passes-is t (some j) h = h j refl

-- a test that does not fail everywhere holds somewhere
somewhere : (t : ℕ → Bool) (n : ℕ) → T (not (every (λ p. not (t p)) n)) → (p : ℕ) × (p < n) × T (t p)
somewhere t n h = go (lowest t n) refl
  where
    go : (r : Option ℕ) → lowest t n ≡ r → (p : ℕ) × (p < n) × T (t p)
    go (some p) e = let f = lowest-some t n p e in (p, f.0, f.1)
    go none e = absurd (T_not (every (λ p. not (t p)) n) h (every-is (λ p. not (t p)) n (λ p l. not_T (t p) (lowest-none t n e p l))))

pub not-nowhere : (t : ℕ → Bool) (n p : ℕ) → p < n → T (t p) → T (not (every (λ p. not (t p)) n))
not-nowhere t n p l h = not_T (every (λ p. not (t p)) n) (λ e. T_not (t p) (every-at (λ p. not (t p)) n e p l) h)

pub of_mode-there : (arrows : List ℕ) (m k : ℕ) → T (of_mode arrows m k) → k < arrow_count arrows
unfolding of_mode
of_mode-there arrows m k t = ltb→lt k (arrow_count arrows) (and_T (ltb k (arrow_count arrows)) (has_mode arrows m k) t).0

pub of_mode-has : (arrows : List ℕ) (m k : ℕ) → T (of_mode arrows m k) → T (has_mode arrows m k)
unfolding of_mode
of_mode-has arrows m k t = (and_T (ltb k (arrow_count arrows)) (has_mode arrows m k) t).1

module _ (pic : Picture) (m : ℕ) where
  abbrev R : ℕ → ℕ → Bool
  R = meets pic

  abbrev Right : ℕ → ℕ → Bool
  Right = right pic m

  -- ---- what the tests of lists say

  pub honest-own : (l : List ℕ) → T (honest pic m l) → T (all_of (of_mode pic.arrows m) l)
  unfolding honest
  honest-own l t = (and_T (all_of (of_mode pic.arrows m) l) _ t).0

  pub honest-right : (l : List ℕ) → T (honest pic m l) → Honest (pairs pic) R Right l
  unfolding honest
  honest-right l t p k b e =
      passes_at (Right p) (first_of (R p) l)
      (every-at (λ p. passes (Right p) (first_of (R p) l)) (pairs pic) (and_T (all_of (of_mode pic.arrows m) l) _ t).1 p b) k e

  pub honest-is : (l : List ℕ) → T (all_of (of_mode pic.arrows m) l) → Honest (pairs pic) R Right l → T (honest pic m l)
  unfolding honest
  honest-is l o h =
      T_and (all_of (of_mode pic.arrows m) l) _ o
      (every-is (λ p. passes (Right p) (first_of (R p) l)) (pairs pic) (λ p b. passes-is (Right p) (first_of (R p) l) (λ k e. h p k b e)))

  new_is : (l : List ℕ) (k p : ℕ) → T (new pic l k p) → T (R p k) × (T (any_of (R p) l) → ⊥)
  unfolding new reached
  new_is l k p t = let b = and_T (R p k) _ t in (b.0, T_not (any_of (R p) l) b.1)

  is-new : (l : List ℕ) (k p : ℕ) → T (R p k) → (T (any_of (R p) l) → ⊥) → T (new pic l k p)
  unfolding new reached
  is-new l k p t n = T_and (R p k) _ t (not_T (any_of (R p) l) n)

  fits-at : (l : List ℕ) (k : ℕ) → T (fits pic m l k) → Fits (pairs pic) R Right l k
  unfolding fits
  fits-at l k t p b r n =
      implied (new pic l k p) (Right p k)
      (every-at (λ p. not (new pic l k p) || Right p k) (pairs pic) t p b) (is-new l k p r n)

  fits-is : (l : List ℕ) (k : ℕ) → Fits (pairs pic) R Right l k → T (fits pic m l k)
  unfolding fits
  fits-is l k f =
      every-is (λ p. not (new pic l k p) || Right p k) (pairs pic)
      (λ p b. implies (new pic l k p) (Right p k) (λ t. let n = new_is l k p t in f p b n.0 n.1))

  -- arrow k would be the first to reach some pair
  abbrev any_new : List ℕ → ℕ → Bool
  any_new l k = not (every (λ p. not (new pic l k p)) (pairs pic))

  pub adds : (l : List ℕ) (k : ℕ) → T (addable pic m l k)
      → T (of_mode pic.arrows m k) × Fits (pairs pic) R Right l k × T (any_new l k)
  unfolding addable
  adds l k t =
      let b = and_T (of_mode pic.arrows m k) (fits pic m l k && any_new l k) t in
      let c = and_T (fits pic m l k) (any_new l k) b.1 in
      (b.0, fits-at l k c.0, c.1)

  pub addable-own : (l : List ℕ) (k : ℕ) → T (addable pic m l k) → T (of_mode pic.arrows m k)
  addable-own l k t = (adds l k t).0

  -- the pair that it would be the first to reach
  pub adds-new : (l : List ℕ) (k : ℕ) → T (addable pic m l k)
      → (p : ℕ) × (p < (pairs pic)) × T (R p k) × (T (any_of (R p) l) → ⊥)
  adds-new l k t =
      let w = somewhere (new pic l k) (pairs pic) (adds l k t).2 in
      let n = new_is l k w.0 w.2 in
      (w.0, w.1, n.0, n.1)

  pub addable-is : (l : List ℕ) (k : ℕ) → T (of_mode pic.arrows m k) → Fits (pairs pic) R Right l k
      → (p : ℕ) → p < (pairs pic) → T (R p k) → (T (any_of (R p) l) → ⊥) → T (addable pic m l k)
  unfolding addable
  addable-is l k o f p b r n =
      T_and (of_mode pic.arrows m k) _ o
      (T_and (fits pic m l k) _ (fits-is l k f) (not-nowhere (new pic l k) (pairs pic) p b (is-new l k p r n)))

  -- an arrow with the same ends, mode and sign can be added too
  pub addable-same : (l : List ℕ) (j k : ℕ) → arrow_at pic.arrows j ≡ arrow_at pic.arrows k → T (of_mode pic.arrows m j)
      → T (addable pic m l k) → T (addable pic m l j)
  unfolding meets right
  addable-same l j k e o t =
      let n = adds-new l k t in
      addable-is l j o (rw (e, ap (λ (a : Arrow). a.sign) e) (adds l k t).1) n.0 n.1 (rw e n.2) n.3

  -- no arrow can be added: the list is full
  pub full : (l : List ℕ) → ((k : ℕ) → T (addable pic m l k) → ⊥) → Full (pairs pic) R Right (of_mode pic.arrows m) l
  full l none' k o f p b r = go (T? (any_of (R p) l))
    where
      go : Dec (T (any_of (R p) l)) → T (any_of (R p) l)
      go (yes c) = c
      go (no d) = absurd (none' k (addable-is l k o f p b r d))

  -- ---- one more arrow

  -- honest, and no arrow twice
  pub record Grown (l : List ℕ) : Type 0 where
    pub is-honest : T (honest pic m l)
    pub once : T (distinct l)

  pub grown-none : Grown []
  unfolding all_of distinct
  grown-none = record { is-honest = honest-is [] tt (honest-none (pairs pic) R Right); once = tt }

  pub grown-more : (l : List ℕ) (k : ℕ) → Grown l → T (addable pic m l k) → Grown (l ++ (k ∷ []))
  grown-more l k g t =
      let a = adds l k t in
      let n = adds-new l k t in
      record {
        is-honest = honest-is (l ++ (k ∷ []))
            (all_of-snoc (of_mode pic.arrows m) l k (honest-own l g.is-honest) a.0)
            (honest-snoc (pairs pic) R Right l k (honest-right l g.is-honest) a.1);
        once = distinct_snoc l k g.once (λ h. n.3 (any_of-has (R n.0) l k h n.2));
      }

  -- so it is no longer than there are arrows
  pub grown-room : (l : List ℕ) → Grown l → length l ≤ length (select (of_mode pic.arrows m) (arrow_count pic.arrows))
  grown-room l g = room (of_mode pic.arrows m) (arrow_count pic.arrows) l (of_mode-there pic.arrows m) (honest-own l g.is-honest) g.once

  pub grown-most : (l : List ℕ) → Grown l → length l ≤ arrow_count pic.arrows
  grown-most l g = omega (arith, grown-room l g, select-most (of_mode pic.arrows m) (arrow_count pic.arrows))

  -- nor than the mode has arrows
  pub mode-room : (l : List ℕ) → Grown l → length l ≤ length (mode_arrows pic.arrows m)
  mode-room l g =
      let s =
      select-within (of_mode pic.arrows m) (has_mode pic.arrows m) (arrow_count pic.arrows) (λ k h. of_mode-has pic.arrows m k) in
      omega (arith, ap length (mode-select pic.arrows m), grown-room l g)
