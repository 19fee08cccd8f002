-- What the definitions say, for the crate above, which does not open them. Assumes nothing.
use mathlib.Core.Path.{◌≡◌, refl}
use mathlib.Core.Bool.{Bool, true, false, not, cond, ◌&&◌}
use mathlib.Core.List.{List, []}
use Prim.Native.Nat.{ℕ, ◌<◌, ◌≤◌}
use native.Mathlib.Decide.{ℕ_discrete}
use native.Mathlib.Omega.{arith}
use borrow.Author.Tests.{ne_eqb}
use lib.Dec.{T, eqb, ltb, lt→ltb}
use Rattle.base.specs.Search.{lowest}
use Rattle.base.proofs.Tests.{T_and}
use Rattle.tables.specs.Rows.{Picture, arrow_count, arrow_at}
use Rattle.tables.specs.declared.Refusal.TheVariants.{NoOrder}
use Rattle.meaning.specs.Meaning.{positive, negative, has_mode, reaches, answer, is_granted, is_unclear}
use Rattle.meaning.specs.Pairs.{user_at, file_at, answer_at}
use Rattle.meaning.specs.Steps.{first_pair}
use Rattle.meaning.specs.declared.Entry.{Entry}
use Rattle.meaning.proofs.ModeLaws.{answer_at_lem}
use Rattle.meaning.proofs.MatrixLaws.{first_pair-places}
use Rattle.list_meaning.specs.Order.{meets, reached, granted, right, any_of, all_of}
use Rattle.list_meaning.specs.Lists.{gives, of_mode}
use Rattle.list_meaning.specs.Greedy.{addable, next, list_to, greedy, left_by, order_fault}

-- ---- lists of numbers

pub any_of-none : (t : ℕ → Bool) → any_of t [] ≡ false
unfolding any_of
any_of-none t = refl

pub all_of-none : (t : ℕ → Bool) → T (all_of t [])
unfolding all_of
all_of-none t = tt

-- ---- an arrow

pub of_mode-is : (arrows : List ℕ) (m k : ℕ) → k < arrow_count arrows → T (has_mode arrows m k) → T (of_mode arrows m k)
unfolding of_mode
of_mode-is arrows m k l t = T_and (ltb k (arrow_count arrows)) (has_mode arrows m k) (lt→ltb k (arrow_count arrows) l) t

-- its sign and a clear answer: what it gives is wrong, by whether the pair is granted
pub gives-clear : (sign : ℕ) (e : Entry) → sign ≤ 1 → is_unclear e ≡ false
    → cond (eqb sign positive) (not (is_granted e)) (is_granted e) ≡ not (gives sign e)
unfolding gives
gives-clear sign e l u = rw u (go (is_granted e) (ℕ_discrete sign 1))
  where
    go : (g : Bool) → Dec (sign ≡ 1) → cond (eqb sign positive) (not g) g ≡ not (cond g (eqb sign positive) (eqb sign negative && true))
    go true (yes i) = rw i
    go true (no n) = rw (ne_eqb sign 1 n)
    go false (yes i) = rw i
    go false (no n) = let z : sign ≡ 0 = omega arith in rw z

module _ (pic : Picture) where
  pub meets-is : (p k : ℕ) → meets pic p k ≡ reaches pic (arrow_at pic.arrows k) (user_at pic p) (file_at pic p)
  unfolding meets
  meets-is p k = refl

  -- one of the list's arrows does
  pub any-meets : (l : List ℕ) (p : ℕ)
      → any_of (meets pic p) l ≡ any_of (λ k. reaches pic (arrow_at pic.arrows k) (user_at pic p) (file_at pic p)) l
  unfolding meets
  any-meets l p = refl

  module _ (m : ℕ) where
    pub right_is : (p k : ℕ) → right pic m p k ≡ gives (arrow_at pic.arrows k).sign (answer_at pic m p)
    unfolding right
    right_is p k = refl

    -- ---- the list that is written

    pub next-is-lowest : (l : List ℕ) → next pic m l ≡ lowest (addable pic m l) (arrow_count pic.arrows)
    unfolding next
    next-is-lowest l = refl

    pub to_none : list_to pic m 0 ≡ []
    unfolding list_to
    to_none = refl

    -- 13 names the first granted pair that it does not reach
    pub order-rows : order_fault pic m
        ≡ first_pair pic
        (λ u f. is_granted (answer pic m u f) && not (any_of (λ k. reaches pic (arrow_at pic.arrows k) u f) (greedy pic m)))
        (NoOrder m)
    unfolding order_fault left_by granted reached meets
    order-rows = simp (first_pair-places, answer_at_lem)
