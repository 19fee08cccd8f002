-- The list place after place: which arrow is next, the first n places, and the list, which ends where none is next.
-- Assumes nothing.
use mathlib.Core.Path.{◌≡◌, refl, sym, ap, ◌∙◌}
use mathlib.Core.Logic.{◌⊎◌, inl, inr, ⊎_elim}
use mathlib.Core.Bool.{Bool}
use mathlib.Core.List.{List, [], ◌∷◌, ◌++◌}
use Rattle.std.specs.Prelude.{Option, None as none, Some as some}
use Prim.Native.Nat.{ℕ, zero, suc, ◌+◌, ◌<◌, ◌≤◌}
use native.Mathlib.Nat.{eq-or-lt_of_le, le_of_suc-le-suc}
use native.Mathlib.Numerals.{add-one}
use native.Mathlib.Omega.{arith}
use lib.Dec.{T}
use lib.ListN.{length, length-append}
use Rattle.tables.specs.Rows.{Picture, arrow_count}
use Rattle.meaning.specs.Pairs.{pairs}
use Rattle.list_meaning.specs.Order.{meets, right}
use Rattle.list_meaning.specs.Lists.{of_mode}
use Rattle.list_meaning.specs.Greedy.{followed, addable, next, list_to, greedy}
use Rattle.base.proofs.SearchLaws.{lowest-some, lowest-none, some-none}
use Rattle.base.proofs.SelectLaws.{lowest-is, lowest-nothing}
use Rattle.list_meaning.proofs.MatchLaws.{Full}
use Rattle.list_meaning.proofs.GreedyLaws.{of_mode-there, addable-own, full, Grown, grown-none, grown-more, grown-most}

module _ (pic : Picture) (m : ℕ) where
  abbrev Can : List ℕ → ℕ → Bool
  Can = addable pic m

  abbrev Next : List ℕ → Option ℕ
  Next = next pic m

  abbrev To : ℕ → List ℕ
  To = list_to pic m

  abbrev list : List ℕ
  list = greedy pic m

  -- ---- which arrow is next

  -- the arrow that is next can be added, and no lower one
  pub next-some : (l : List ℕ) (k : ℕ) → Next l ≡ some k
      → T (Can l k) × ((j : ℕ) → j < k → T (Can l j) → ⊥)
  unfolding next
  next-some l k e = let f = lowest-some (Can l) (arrow_count pic.arrows) k e in (f.1, f.2)

  pub next-is : (l : List ℕ) (k : ℕ) → T (Can l k)
      → ((j : ℕ) → j < k → T (Can l j) → ⊥) → Next l ≡ some k
  unfolding next
  next-is l k t b = lowest-is (Can l) (arrow_count pic.arrows) k (of_mode-there pic.arrows m k (addable-own pic m l k t)) t b

  -- where none is next, none can be added
  pub next-none : (l : List ℕ) → Next l ≡ none → (k : ℕ) → T (Can l k) → ⊥
  unfolding next
  next-none l e k t =
      lowest-none (Can l) (arrow_count pic.arrows) e k (of_mode-there pic.arrows m k (addable-own pic m l k t)) t

  pub next-nothing : (l : List ℕ) → ((k : ℕ) → T (Can l k) → ⊥) → Next l ≡ none
  unfolding next
  next-nothing l b = lowest-nothing (Can l) (arrow_count pic.arrows) (λ j h. b j)

  -- ---- the first n places

  -- one place more, and the end
  pub to-next : (n k : ℕ) → Next (To n) ≡ some k → To (suc n) ≡ To n ++ (k ∷ [])
  unfolding list_to followed
  to-next n k e = rw e

  to_end : (n : ℕ) → Next (To n) ≡ none → To (suc n) ≡ To n
  unfolding list_to followed
  to_end n e = rw e

  -- a property that the next arrow keeps holds of the first n places
  pub to-holds : (P : List ℕ → Type 0) → P [] → ((l : List ℕ) (k : ℕ) → P l → Next l ≡ some k → P (l ++ (k ∷ [])))
      → (n : ℕ) → P (To n)
  unfolding list_to followed
  to-holds P z s zero = z
  to-holds P z s (suc n) = go (Next (To n)) refl (to-holds P z s n)
    where
      go : (r : Option ℕ) → Next (To n) ≡ r → P (To n) → P (followed (To n) r)
      go none e h = h
      go (some k) e h = s (To n) k h e

  -- the first n places are honest and have no arrow twice
  pub to-grown : (n : ℕ) → Grown pic m (To n)
  to-grown = to-holds (Grown pic m) (grown-none pic m) (λ l k g e. grown-more pic m l k g (next-some l k e).0)

  -- there are n, unless the list ended before
  to-length : (n : ℕ) → (Next (To n) ≡ none) ⊎ (length (To n) ≡ n)
  unfolding list_to
  to-length zero = inr refl
  to-length (suc n) = go (Next (To n)) refl (to-length n)
    where
      go : (r : Option ℕ) → Next (To n) ≡ r → (Next (To n) ≡ none) ⊎ (length (To n) ≡ n)
          → (Next (To (suc n)) ≡ none) ⊎ (length (To (suc n)) ≡ suc n)
      go none e h = inl (ap Next (to_end n e) ∙ e)
      go (some k) e h =
          ⊎_elim (λ i. absurd (some-none (sym e ∙ i)))
          (λ i. inr (ap length (to-next n k e) ∙ length-append (To n) (k ∷ []) ∙ ap (λ (j : ℕ). j + 1) i ∙ add-one n)) h

  -- where it ended it stays
  to-stays : (n : ℕ) → Next (To n) ≡ none → (c : ℕ) → n ≤ c → To c ≡ To n
  to-stays n e zero h = let z : zero ≡ n = omega arith in ap To z
  to-stays n e (suc c) h = ⊎_elim (λ i. sym (ap To i)) (λ l. more (to-stays n e c (le_of_suc-le-suc l))) (eq-or-lt_of_le h)
    where
      more : To c ≡ To n → To (suc c) ≡ To n
      more i = to_end c (ap Next i ∙ e) ∙ i

  -- ---- the list

  -- it has ended
  pub greedy-ends : Next list ≡ none
  unfolding greedy
  greedy-ends = ⊎_elim (λ e. e) (λ e. next-nothing (To (arrow_count pic.arrows)) (λ k t. too_long k t e)) (to-length (arrow_count pic.arrows))
    where
      too_long : (k : ℕ) → T (Can (To (arrow_count pic.arrows)) k) → length (To (arrow_count pic.arrows)) ≡ arrow_count pic.arrows → ⊥
      too_long k t e =
          let l = To (arrow_count pic.arrows) in
          omega (arith, length-append l (k ∷ []), grown-most pic m (l ++ (k ∷ [])) (grown-more pic m l k (to-grown (arrow_count pic.arrows)) t))

  -- so it is the first n places, where none is next after them
  pub greedy-is : (n : ℕ) → length (To n) ≡ n → Next (To n) ≡ none → list ≡ To n
  unfolding greedy
  greedy-is n i e = to-stays n e (arrow_count pic.arrows) (omega (arith, grown-most pic m (To n) (to-grown n)))

  pub greedy-grown : Grown pic m list
  unfolding greedy
  greedy-grown = to-grown (arrow_count pic.arrows)

  pub greedy-full : Full (pairs pic) (meets pic) (right pic m) (of_mode pic.arrows m) list
  greedy-full = full pic m list (next-none list greedy-ends)
