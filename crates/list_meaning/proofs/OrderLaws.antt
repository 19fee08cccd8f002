-- The third condition, over places: the list that is written qualifies, there is one exactly when some honest list reaches every
-- granted pair, and refusal 13 names the first granted pair that no honest list whatever reaches. Assumes nothing.
use mathlib.Core.Path.{◌≡◌, sym}
use mathlib.Core.Logic.{◌↔◌}
use mathlib.Core.Bool.{Bool, not, ◌&&◌, ◌||◌}
use mathlib.Core.List.{List}
use Rattle.std.specs.Prelude.{None as none, Some as some}
use Prim.Native.Nat.{ℕ, ◌<◌}
use native.Mathlib.Omega.{arith}
use lib.Dec.{T, T_not, not_T}
use Rattle.tables.specs.Rows.{Picture}
use Rattle.tables.specs.declared.Refusal.TheVariants.{NoOrder}
use Rattle.tables.specs.declared.Refusal.{Refusal}
use Rattle.meaning.specs.Pairs.{pairs, user_at, file_at}
use Rattle.list_meaning.specs.Order.{meets, reached, granted, right, honest, covers_all, qualifies, FirstMissed, distinct}
use Rattle.list_meaning.specs.Lists.{of_mode}
use Rattle.list_meaning.specs.Greedy.{greedy, left_by, order_fault}
use Rattle.tables.proofs.TableLaws.{not-not}
use Rattle.base.proofs.Tests.{and_T, T_and, T_true, not-false}
use Rattle.base.proofs.SearchLaws.{first-none, first_some, first-is, first-nothing, every-at, every-is}
use Rattle.base.proofs.SearchLaws.{given-none, given-some, given-true, given-false}
use Rattle.list_meaning.proofs.MatchLaws.{maximal}
use Rattle.list_meaning.proofs.GreedyLaws.{implies, implied, honest-own, honest-right}
use Rattle.list_meaning.proofs.NextLaws.{greedy-grown, greedy-full}

module _ (pic : Picture) (m : ℕ) where
  -- the pair at place p is granted, and the list does not reach it
  abbrev left : List ℕ → ℕ → Bool
  left l p = granted pic m p && not (reached pic l p)

  abbrev place : ℕ → Refusal
  place p = NoOrder m (user_at pic p) (file_at pic p)

  abbrev best : List ℕ
  best = greedy pic m

  -- a granted pair that is not left is reached
  unless-left : (l : List ℕ) (p : ℕ) → T (granted pic m p) → (T (left l p) → ⊥) → T (reached pic l p)
  unless-left l p g n =
      not-not (reached pic l p) (λ r. n (T_and (granted pic m p) (not (reached pic l p)) g r))

  -- what it is to reach every granted pair
  pub covers-is : (l : List ℕ) → ((p : ℕ) → p < (pairs pic) → T (granted pic m p) → T (reached pic l p))
      → T (covers_all pic m l)
  unfolding covers_all
  covers-is l h =
      every-is (λ p. not (granted pic m p) || reached pic l p) (pairs pic)
      (λ p b. implies (granted pic m p) (reached pic l p) (h p b))

  pub covers_at : (l : List ℕ) → T (covers_all pic m l)
      → (p : ℕ) → p < (pairs pic) → T (granted pic m p) → T (reached pic l p)
  unfolding covers_all
  covers_at l c p b =
      implied (granted pic m p) (reached pic l p)
      (every-at (λ p. not (granted pic m p) || reached pic l p) (pairs pic) c p b)

  -- a list that leaves nothing does
  left-none : (l : List ℕ) → left_by pic m l ≡ none → T (covers_all pic m l)
  unfolding left_by
  left-none l e = covers-is l (λ p b g. unless-left l p g (given-none (left l p) (place p) (first-none _ (pairs pic) e p b)))

  -- the list reaches all that an honest list reaches, since nothing can be added to it
  pub most : (l : List ℕ) → T (honest pic m l)
      → (p : ℕ) → p < (pairs pic) → T (reached pic l p) → T (reached pic best p)
  unfolding reached
  most l h =
      maximal (pairs pic) (meets pic) (right pic m) (of_mode pic.arrows m) best (greedy-full pic m) l
      (honest-own pic m l h) (honest-right pic m l h)

  -- where 13 is not said, it qualifies
  pub greedy-qualifies : order_fault pic m ≡ none → T (qualifies pic m best)
  unfolding qualifies order_fault
  greedy-qualifies e =
      let g = greedy-grown pic m in
      T_and (honest pic m best) _ g.is-honest
      (T_and (distinct best) (covers_all pic m best) g.once (left-none best e))

  -- ---- what refusal 13 says

  -- there is none exactly when some honest list reaches every granted pair
  pub order-none : (order_fault pic m ≡ none)
      ↔ ((l : List ℕ) × T (honest pic m l) × T (covers_all pic m l))
  unfolding order_fault left_by
  order-none = (
    λ e. (best, (greedy-grown pic m).is-honest, left-none best e),
    λ s.
        first-nothing _ (pairs pic)
        (λ p b.
        given-false (left best p) (place p)
        (not-false (left best p)
        (λ t.
        let d = and_T (granted pic m p) _ t in
        T_not (reached pic best p) d.1
        (most s.0 s.1 p b (covers_at s.0 s.2 p b d.0))))),
  )

  -- it names a pair in the mode
  pub order-some : (x : Refusal) → order_fault pic m ≡ some x → (u f : ℕ) × (x ≡ NoOrder m u f)
  unfolding order_fault left_by
  order-some x e =
      let w = first_some _ (pairs pic) x e in
      (user_at pic w.0, file_at pic w.0, sym (given-some (left best w.0) (place w.0) x w.2).1)

  -- it names a pair exactly when that is the first granted pair that no honest list whatever reaches
  pub order-missed : (u f : ℕ) → (order_fault pic m ≡ some (NoOrder m u f)) ↔ FirstMissed pic m u f
  unfolding order_fault left_by
  order-missed u f = (named, names)
    where
      named : left_by pic m best ≡ some (NoOrder m u f) → FirstMissed pic m u f
      named e =
          let w = first_some _ (pairs pic) (NoOrder m u f) e in
          let p = w.0 in
          let s = given-some (left best p) (place p) (NoOrder m u f) w.2 in
          let d = and_T (granted pic m p) _ s.0 in
          record {
            place = p;
            there = w.1;
            user-is = cc s.1;
            file-is = cc s.1;
            is-granted = d.0;
            missed = λ l h r. T_not (reached pic best p) d.1 (most l h p w.1 r);
            before = λ q l g. (
              best,
              (greedy-grown pic m).is-honest,
              unless-left best q g (given-none (left best q) (place q) (w.3 q l)),
            );
          }

      names : FirstMissed pic m u f → left_by pic m best ≡ some (NoOrder m u f)
      names w =
          first-is _ (pairs pic) (NoOrder m u f) (
            w.place,
            w.there,
            rw (← w.user-is, ← w.file-is)
                (given-true (left best w.place) (place w.place)
                (T_true (left best w.place)
                (T_and (granted pic m w.place) _ w.is-granted
                (not_T (reached pic best w.place) (w.missed best (greedy-grown pic m).is-honest))))),
            λ q l.
                given-false (left best q) (place q)
                (not-false (left best q)
                (λ t.
                let d = and_T (granted pic m q) _ t in
                let b = w.before q l d.0 in
                T_not (reached pic best q) d.1
                (most b.0 b.1 q (omega (arith, w.there)) b.2))),
          )
