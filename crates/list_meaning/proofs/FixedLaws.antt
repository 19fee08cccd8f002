-- Document 02, P3: there is exactly one list in which the lowest-numbered arrow that can follow stands at each place (`fixed-order`),
-- every call that writes a list writes that one (`fixed-list`), and so two calls on one picture write the same (`same-list`).
-- Assumes nothing.
use mathlib.Core.Path.{◌≡◌, refl, sym, ap, ◌∙◌}
use mathlib.Core.Logic.{◌↔◌, ⊎_elim}
use mathlib.Core.Bool.{Bool}
use mathlib.Core.List.{List, [], ◌∷◌, ◌++◌}
use Rattle.std.specs.Prelude.{Option, None as none, Some as some}
use Prim.Native.Nat.{ℕ, zero, suc, ◌<◌, ◌≤◌}
use native.Mathlib.Numerals.{add-one}
use native.Mathlib.Omega.{arith}
use lib.Dec.{T, eqb, eqb→eq}
use lib.ListN.{length, get_or, take, length-append, get_or-append}
use lib.Seq.{take-suc, take-length, take-append-le, take_at, get_or-append_seam}
use Rattle.tables.specs.Rows.{Picture, arrow_count, arrow_at}
use Rattle.tables.specs.declared.Refusal.{Refusal}
use Rattle.meaning.specs.Pairs.{pairs, user_at, file_at}
use Rattle.list_meaning.specs.Order.{meets, right, any_of}
use Rattle.list_meaning.specs.Lists.{of_mode}
use Rattle.list_meaning.specs.Greedy.{next, addable, list_to, greedy, order_fault}
use Rattle.list_meaning.specs.Condition.{Reaches}
use Rattle.list_meaning.specs.Calls.{list_before, list_answer, list_after}
use Rattle.list_meaning.specs.Fixed.{CanFollow, Lowest, FixedOrder}
use Rattle.std.specs.Prelude.{Result, Ok}
use Rattle.base.proofs.Tests.{or-T}
use Rattle.base.proofs.SearchLaws.{below_suc}
use Rattle.base.proofs.PartLaws.{part-is}
use Rattle.meaning.proofs.PairLaws.{pair_place}
use Rattle.list_meaning.proofs.PlaceLaws.{any_place, place-any}
use Rattle.list_meaning.proofs.CountLaws.{any_of-snoc}
use Rattle.list_meaning.proofs.MatchLaws.{honest-fits}
use Rattle.list_meaning.proofs.GreedyLaws.{honest-right, addable-own, adds-new, addable-is, addable-same, Grown, grown-none, grown-more}
use Rattle.list_meaning.proofs.NextLaws.{next-some, next-is, next-none, next-nothing, to-next, to-holds, to-grown, greedy-ends, greedy-is}
use Rattle.list_meaning.proofs.CallLaws.{answered-list, answered-none}
use Rattle.list_meaning.proofs.ConditionLaws.{pair-at, honest-pairs, not-both}

module _ (pic : Picture) (m : ℕ) where
  abbrev Follows : List ℕ → ℕ → Type 0
  Follows = CanFollow pic m

  abbrev Low : List ℕ → ℕ → Type 0
  Low = Lowest pic m

  abbrev HonestOnce : List ℕ → Type 0
  HonestOnce = Grown pic m

  abbrev Can : List ℕ → ℕ → Bool
  Can = addable pic m

  abbrev To : ℕ → List ℕ
  To = list_to pic m

  -- ---- the tests say what the plain reading says

  test_plain : (l : List ℕ) (k : ℕ) → HonestOnce l → T (Can l k) → Follows l k
  unfolding meets
  test_plain l k g t =
      let n = adds-new pic m l k t in
      record {
        of-mode = addable-own pic m l k t;
        stays-honest = (honest-pairs pic m (l ++ (k ∷ []))).0 (grown-more pic m l k g t).is-honest;
        user = user_at pic n.0;
        file = file_at pic n.0;
        is-pair = pair-at pic m n.0 n.1;
        reaches = n.2;
        nothing-earlier = λ r. n.3 (place-any (meets pic n.0) l r.0 r.1 r.2);
      }

  plain-test : (l : List ℕ) (k : ℕ) → Follows l k → T (Can l k)
  unfolding meets
  plain-test l k c =
      let p = pair_place pic c.user c.file c.is-pair.0 c.is-pair.1 in
      let h = (honest-pairs pic m (l ++ (k ∷ []))).1 c.stays-honest in
      let n : Reaches pic l (user_at pic p.0) (file_at pic p.0) → ⊥ = rw (p.2, p.3) c.nothing-earlier in
      addable-is pic m l k c.of-mode
      (honest-fits (pairs pic) (meets pic) (right pic m) l k (honest-right pic m (l ++ (k ∷ [])) h))
      p.0 p.1 (rw (p.2, p.3) c.reaches) (λ t. n (any_place (meets pic p.0) l t))

  next-lowest : (l : List ℕ) (k : ℕ) → HonestOnce l → next pic m l ≡ some k → Low l k
  next-lowest l k g e =
      let s = next-some pic m l k e in
      record { can-follow = test_plain l k g s.0; none-lower = λ j h c. s.1 j h (plain-test l j c) }

  lowest-next : (l : List ℕ) (k : ℕ) → HonestOnce l → Low l k → next pic m l ≡ some k
  lowest-next l k g w =
      next-is pic m l k (plain-test l k w.can-follow) (λ j h t. w.none-lower j h (test_plain l j g t))

  -- ---- the list is such a list

  abbrev InPlace : List ℕ → Type 0
  InPlace l = (i : ℕ) → i < length l → Low (take i l) (get_or l i 0)

  in-place-more : (l : List ℕ) (k : ℕ) → InPlace l → Low l k → InPlace (l ++ (k ∷ []))
  in-place-more l k a w i h =
      ⊎_elim
      (λ e. rw (take_at l (k ∷ []) i (sym e), ap (λ (j : ℕ). get_or (l ++ (k ∷ [])) j 0) e ∙ get_or-append_seam l k [] 0) w)
      (λ q. rw (take-append-le i l (k ∷ []) (omega arith), get_or-append l (k ∷ []) 0 i q) (a i q))
      (below_suc (rw (length-append, add-one) at h))

  greedy-fixed : FixedOrder pic m (greedy pic m)
  unfolding greedy
  greedy-fixed =
      let both =
      to-holds pic m (λ l. HonestOnce l × InPlace l)
      (grown-none pic m, λ i h. absurd (omega arith))
      (λ l k b e.
      (grown-more pic m l k b.0 (next-some pic m l k e).0, in-place-more l k b.1 (next-lowest l k b.0 e)))
      _ in
      record {
        at-each-place = both.1;
        ends = λ k c. absurd (next-none pic m _ (greedy-ends pic m) k (plain-test _ k c));
      }

  -- ---- and the only one

  module _ (l : List ℕ) (o : FixedOrder pic m l) where
    begins : (i : ℕ) → i ≤ length l → take i l ≡ To i
    unfolding list_to
    begins zero h = refl
    begins (suc i) h = more (begins i (omega arith))
      where
        more : take i l ≡ To i → take (suc i) l ≡ To (suc i)
        more e =
            take-suc l i 0 h
            ∙ ap (λ (x : List ℕ). x ++ (get_or l i 0 ∷ [])) e
            ∙ sym (to-next pic m i (get_or l i 0)
            (lowest-next _ (get_or l i 0) (to-grown pic m i) (rw e at (o.at-each-place i h))))

    only_one : l ≡ greedy pic m
    only_one =
        let e : l ≡ To (length l) = sym (take-length l) ∙ begins (length l) (omega arith) in
        let g : HonestOnce l = rw e (to-grown pic m (length l)) in
        let n = next-nothing pic m l (λ k t. o.ends k (test_plain l k g t)) in
        e ∙ sym (greedy-is pic m (length l) (sym (ap length e)) (sym (ap (next pic m) e) ∙ n))

  -- there is exactly one list in the fixed order
  pub fixed-order : (l : List ℕ) → FixedOrder pic m l ↔ (l ≡ greedy pic m)
  fixed-order l = (only_one l, λ e. rw e greedy-fixed)

  -- of repeated arrows only the lowest number stands in it
  pub repeat-left-out : (j k : ℕ) → j < k → T (of_mode pic.arrows m j) → arrow_at pic.arrows j ≡ arrow_at pic.arrows k
      → T (any_of (eqb k) (greedy pic m)) → ⊥
  unfolding greedy any_of
  repeat-left-out j k h o e =
      to-holds pic m (λ l. T (any_of (eqb k) l) → ⊥) (λ t. t)
      (λ l i left n t.
      ⊎_elim left
      (λ q.
      let s = next-some pic m l k (n ∙ ap some (sym (eqb→eq k i q))) in
      s.1 j h (addable-same pic m l j k e o s.0))
      (or-T (any_of (eqb k) l) (eqb k i) (rw any_of-snoc at t)))
      (arrow_count pic.arrows)

  -- ---- the list that a call writes

  -- what a call answers and leaves in the list places, by what it was lent
  abbrev answer_to : List ℕ → List ℕ → List ℕ → Result ℕ Refusal
  answer_to s out work = list_answer pic m (list_before pic m s out work)

  abbrev places_after : List ℕ → List ℕ → List ℕ → List ℕ
  places_after s out work = list_after pic m (list_before pic m s out work) out

  written-greedy : (s out work : List ℕ) → list_before pic m s out work ≡ none
      → (n : ℕ) → answer_to s out work ≡ Ok n → take n (places_after s out work) ≡ greedy pic m
  written-greedy s out work passed n i = rw passed (go (order_fault pic m) refl (rw passed at i))
    where
      go : (x : Option Refusal) → order_fault pic m ≡ x → list_answer pic m none ≡ Ok n
          → take n (list_after pic m none out) ≡ greedy pic m
      go none e w =
          let a = answered-list pic m e out in
          let k : n ≡ length (greedy pic m) = cc a.0 in
          part-is (greedy pic m) out n _ (k, sym a.1)
      go (some x) e w = absurd (not-both w (sym (answered-none pic m x e out).0))

  -- wherever a list is written, it is the one in the fixed order
  pub fixed-list : (s out work : List ℕ) → list_before pic m s out work ≡ none
      → (n : ℕ) → answer_to s out work ≡ Ok n → FixedOrder pic m (take n (places_after s out work))
  fixed-list s out work passed n i = rw (written-greedy s out work passed n i) greedy-fixed

  -- two calls that pass checks 1 to 12 answer the same and write the same list, whatever each was lent
  pub same-list : (s out work s' out' work' : List ℕ)
      → list_before pic m s out work ≡ none → list_before pic m s' out' work' ≡ none
      → (answer_to s out work ≡ answer_to s' out' work')
      × ((n : ℕ) → answer_to s out work ≡ Ok n → take n (places_after s out work) ≡ take n (places_after s' out' work'))
  same-list s out work s' out' work' p q =
      let same : answer_to s out work ≡ answer_to s' out' work' = rw (p, q) in
      (same, λ n i. written-greedy s out work p n i ∙ sym (written-greedy s' out' work' q n (sym same ∙ i)))
