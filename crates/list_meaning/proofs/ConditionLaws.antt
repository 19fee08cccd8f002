-- The third condition holds of every call that passes checks 1 to 12 (`third-condition`). Before it: what is said of places is the
-- same as what is said of pairs by their box numbers. Assumes nothing.
use mathlib.Core.Path.{◌≡◌, refl, sym, ap, subst, ◌∙◌}
use mathlib.Core.Logic.{◌↔◌}
use mathlib.Core.List.{List}
use Rattle.std.specs.Prelude.{Option, None as none, Some as some}
use Prim.Native.Nat.{ℕ, ◌<◌, ◌≤◌}
use native.Mathlib.Omega.{arith}
use lib.Dec.{T}
use lib.ListN.{length, get_or}
use Rattle.tables.specs.Rows.{Picture}
use Rattle.base.specs.Buffers.{written}
use Rattle.tables.specs.declared.Refusal.TheVariants.{NoOrder}
use Rattle.tables.specs.declared.Refusal.{Refusal}
use Rattle.meaning.specs.Meaning.{mode_arrows, answer, is_granted}
use Rattle.meaning.specs.Pairs.{pairs, user_at, file_at}
use Rattle.list_meaning.specs.Order.{meets, reached, granted, right, honest, covers_all, qualifies, FirstMissed, distinct}
use Rattle.list_meaning.specs.Lists.{of_mode}
use Rattle.list_meaning.specs.Greedy.{greedy, order_fault}
use Rattle.list_meaning.specs.Calls.{list_early, list_before, list_answer, list_after, work_after}
use Rattle.list_meaning.specs.Condition.{Pair, Reaches, Honest, ReachesAll, SomeReachesAll}
use Rattle.list_meaning.specs.Condition.{FirstUnreached, WrittenList, Condition3}
use Rattle.std.specs.Prelude.{Result, Ok, Err}
use Rattle.tables.proofs.TableLaws.{both-none}
use Rattle.base.proofs.Tests.{and_T}
use Rattle.base.proofs.SearchLaws.{some-none}
use Rattle.base.proofs.BufferLaws.{written_at, written-rest}
use Rattle.base.proofs.PartLaws.{part-is, wrote-length}
use Rattle.meaning.proofs.PairLaws.{user_at-atom, file_at-atom, pair_place, pair-before}
use Rattle.meaning.proofs.ModeLaws.{answer_at_lem}
use Rattle.list_meaning.proofs.PlaceLaws.{any_place, place-any, all-place, place-all, first-place, place-first, once-place}
use Rattle.list_meaning.proofs.GreedyLaws.{honest-own, honest-right, honest-is, mode-room}
use Rattle.list_meaning.proofs.OrderLaws.{covers-is, covers_at, greedy-qualifies, order-none, order-some, order-missed}
use Rattle.list_meaning.proofs.CallLaws.{answered-list, answered-none, rooms}

module _ (pic : Picture) (m : ℕ) where
  -- ---- places and pairs

  -- what holds at each place holds of each pair
  by_place : (P : ℕ → ℕ → Type 0) → ((p : ℕ) → p < pairs pic → P (user_at pic p) (file_at pic p))
      → (u f : ℕ) → Pair pic u f → P u f
  by_place P h u f a = let p = pair_place pic u f a.0 a.1 in rw (p.2, p.3) at (h p.0 p.1)

  pub pair-at : (p : ℕ) → p < pairs pic → Pair pic (user_at pic p) (file_at pic p)
  pair-at p b = (user_at-atom pic p b, file_at-atom pic p b)

  -- the pair at a place is granted; it is reached by a list
  granted-at : (p : ℕ) → T (granted pic m p) ↔ T (is_granted (answer pic m (user_at pic p) (file_at pic p)))
  unfolding granted
  granted-at p = let e = answer_at_lem pic m p in (λ t. rw e at t, λ t. rw e t)

  reached-at : (l : List ℕ) (p : ℕ)
      → T (reached pic l p) ↔ Reaches pic l (user_at pic p) (file_at pic p)
  unfolding reached meets
  reached-at l p = (any_place (meets pic p) l, λ r. place-any (meets pic p) l r.0 r.1 r.2)

  pub honest-pairs : (l : List ℕ) → T (honest pic m l) ↔ Honest pic m l
  unfolding meets right
  honest-pairs l = (
    λ h. (
      all-place (of_mode pic.arrows m) l (honest-own pic m l h),
      by_place _
          (λ p b i r. rw (answer_at_lem pic m p) at (honest-right pic m l h p (get_or l i 0) b (first-place (meets pic p) l i r))),
    ),
    λ h.
        honest-is pic m l (place-all (of_mode pic.arrows m) l h.0)
        (λ p k b e.
        let r = place-first (meets pic p) l k e in
        rw (answer_at_lem pic m p, ← r.2) (h.1 (user_at pic p) (file_at pic p) (pair-at p b) r.0 r.1)),
  )

  covers-pairs : (l : List ℕ) → T (covers_all pic m l) ↔ ReachesAll pic m l
  covers-pairs l = (
    λ c. by_place _ (λ p b g. (reached-at l p).0 (covers_at pic m l c p b ((granted-at p).1 g))),
    λ c.
        covers-is pic m l
        (λ p b g. (reached-at l p).1 (c (user_at pic p) (file_at pic p) (pair-at p b) ((granted-at p).0 g))),
  )

  -- ---- refusal 13

  order-pairs : (order_fault pic m ≡ none) ↔ SomeReachesAll pic m
  order-pairs = (
    λ e. let s = (order-none pic m).0 e in (s.0, (honest-pairs s.0).0 s.1, (covers-pairs s.0).0 s.2),
    λ s. (order-none pic m).1 (s.0, (honest-pairs s.0).1 s.1, (covers-pairs s.0).1 s.2),
  )

  missed-pair : (u f : ℕ) → FirstMissed pic m u f → FirstUnreached pic m u f
  missed-pair u f w =
      let p = w.place in
      rw (← w.user-is, ← w.file-is)
      (record {
        is-pair = pair-at p w.there;
        is-granted = (granted-at p).0 w.is-granted;
        unreached = λ s. w.missed s.0 ((honest-pairs s.0).1 s.1) ((reached-at s.0 p).1 s.2);
        before = by_place _
            (λ q b o g.
            let s = w.before q (pair-before pic p q w.there b o) ((granted-at q).1 g) in
            (s.0, (honest-pairs s.0).0 s.1, (reached-at s.0 q).0 s.2));
      })

  -- ---- what is written

  -- checks 1 to 12 leave a place for each arrow of the mode
  room_for : (s out work : List ℕ) → list_before pic m s out work ≡ none → length (mode_arrows pic.arrows m) ≤ length out
  unfolding list_before
  room_for s out work e = (rooms pic m s out work (both-none (list_early pic m s out work) _ e).0).out-room

  list-there : (l out out' : List ℕ) → length (mode_arrows pic.arrows m) ≤ length out → out' ≡ written l out
      → T (qualifies pic m l)
      → WrittenList pic m (length l) out out'
  unfolding qualifies
  list-there l out out' h w q =
      let a = and_T (honest pic m l) _ q in
      let b = and_T (distinct l) (covers_all pic m l) a.1 in
      let few = mode-room pic m l (record { is-honest = a.0; once = b.0 }) in
      let fit : length l ≤ length out = omega arith in
      let part = part-is l out (length l) out' (refl, w) in
      let at : (p : ℕ) → p < length l → get_or out' p 0 ≡ get_or l p 0 = λ p g. rw w (written_at l out p g) in
      record {
        there = fit;
        same-places = wrote-length l out (length l) out' (refl, w) fit;
        is-honest = rw part ((honest-pairs l).0 a.0);
        once = λ i j less there e. once-place l b.0 i j less there (sym (at i (omega arith)) ∙ e ∙ at j there);
        reaches_all = rw part ((covers-pairs l).0 b.1);
        beyond = λ p g. rw w (written-rest l out p g);
      }

pub not-both : {r : Result ℕ Refusal} {n : ℕ} {x : Refusal} → r ≡ Ok n → r ≡ Err x → ⊥
not-both e i = cc

-- the third condition of acceptance holds of what the call answers and leaves, wherever checks 1 to 12 find no fault
module _ (pic : Picture) (m : ℕ) (s out work : List ℕ) where
  abbrev before : Option Refusal
  before = list_before pic m s out work

  abbrev Holds : Option Refusal → Type 0
  Holds fault =
      Condition3 pic m out work
      (list_answer pic m fault) (list_after pic m fault out) (work_after pic m fault work)

  pub third-condition : before ≡ none → Holds before
  unfolding work_after
  third-condition passed = rw passed (go (order_fault pic m) refl)
    where
      go : (x : Option Refusal) → order_fault pic m ≡ x → Holds none
      go none e =
          let list = greedy pic m in
          let some-list = (order-pairs pic m).0 e in
          let a = answered-list pic m e out in
          let w =
          list-there pic m list out (list_after pic m none out) (room_for pic m s out work passed)
          (sym a.1) (greedy-qualifies pic m e) in
          record {
            writes = (λ z. some-list, λ z. (length list, sym a.0));
            written-list = λ n i.
                let k : length list ≡ n = cc a.0 in
                subst (λ (j : ℕ). WrittenList pic m j out (list_after pic m none out)) k w;
            no-order = (λ z. absurd (not-both (sym a.0) z.2), λ n. absurd (n some-list));
            names = λ u f i. absurd (not-both (sym a.0) i);
            blanked = λ u f i. absurd (not-both (sym a.0) i);
            work-after = refl;
          }
      go (some x) e =
          let no-list : SomeReachesAll pic m → ⊥ = λ l. some-none (sym e ∙ (order-pairs pic m).1 l) in
          let pair = order-some pic m x e in
          let a = answered-none pic m x e out in
          record {
            writes = (λ z. absurd (not-both z.1 (sym a.0)), λ l. absurd (no-list l));
            written-list = λ n i. absurd (not-both i (sym a.0));
            no-order = (λ z. no-list, λ n. (pair.0, pair.1, sym a.0 ∙ ap Err pair.2));
            names = λ u f i.
                let k : x ≡ NoOrder m u f = cc a.0 in
                missed-pair pic m u f ((order-missed pic m u f).0 (e ∙ ap some k));
            blanked = λ u f i. sym a.1;
            work-after = refl;
          }
