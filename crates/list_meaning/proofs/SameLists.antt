-- Pictures with the same arrows and the same pairs, reached and answered alike, have the same list and the same refusal 13.
-- Assumes nothing.
use mathlib.Core.Path.{◌≡◌, refl, ap, fun_ext, ◌∙◌}
use mathlib.Core.List.{List}
use Prim.Native.Nat.{ℕ, zero, suc}
use Rattle.tables.specs.Rows.{Picture, arrow_count}
use Rattle.meaning.proofs.SamePictures.{SameAnswers}
use Rattle.list_meaning.specs.Order.{meets, reached, granted, right}
use Rattle.list_meaning.specs.Greedy.{new, fits, addable, next, list_to, greedy, left_by, order_fault}

module _ (one other : Picture) (same-arrows : one.arrows ≡ other.arrows) (same : SameAnswers one other) where
  same_meets : (p k : ℕ) → meets one p k ≡ meets other p k
  unfolding meets
  same_meets p k = simp (same-arrows, same.users, same.files, same.reached)

  same-reached : (l : List ℕ) (p : ℕ) → reached one l p ≡ reached other l p
  unfolding reached
  same-reached l p = rw (fun_ext (same_meets p))

  module _ (m : ℕ) where
    same-addable : (l : List ℕ) (k : ℕ) → addable one m l k ≡ addable other m l k
    unfolding addable fits new right
    same-addable l k = simp (same-arrows, same_meets, same-reached, same.answered, same.same-pairs)

    same_next : (l : List ℕ) → next one m l ≡ next other m l
    unfolding next
    same_next l = rw (fun_ext (same-addable l), same-arrows)

    same-list_to : (n : ℕ) → list_to one m n ≡ list_to other m n
    unfolding list_to
    same-list_to zero = refl
    same-list_to (suc n) = rw (same-list_to n, same_next)

    -- the list
    pub same-greedy : greedy one m ≡ greedy other m
    unfolding greedy
    same-greedy = ap (λ (a : List ℕ). list_to one m (arrow_count a)) same-arrows ∙ same-list_to (arrow_count other.arrows)

    -- 13
    pub same-order : order_fault one m ≡ order_fault other m
    unfolding order_fault left_by granted
    same-order = simp (same-greedy, same-reached, same.answered, same.same-pairs, same.users, same.files)
