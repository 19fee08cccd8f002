-- The list that is written (document 02, P3), refusal 13, and what is answered and written by it, as definitions that compute:
-- `fixed-order` (proofs/FixedLaws.antt) says that this is the list of specs/Fixed.antt, and `third-condition` (proofs/ConditionLaws.antt)
-- that what is answered and written is that of specs/Condition.antt. Assumes nothing.
use Rattle.std.specs.Prelude.{Bool, not, ◌&&◌, List, [], ◌∷◌, ◌++◌, ℕ, zero, suc, length, replicate, Result, Ok, Err}
use Rattle.std.specs.Prelude.{Option, None as none, Some as some}
use Rattle.base.specs.Search.{implies, first, given, every, lowest}
use Rattle.tables.specs.Rows.{Picture, no_arrow, arrow_count}
use Rattle.tables.specs.declared.Refusal.TheVariants.{NoOrder}
use Rattle.tables.specs.declared.Refusal.{Refusal}
use Rattle.meaning.specs.Pairs.{pairs, user_at, file_at}
use Rattle.list_meaning.specs.Order.{meets, reached, granted, right}
use Rattle.list_meaning.specs.Lists.{of_mode, list_room}

-- the list with this arrow at its end, if there is one
unfoldable pub followed : (l : List ℕ) (next : Option ℕ) → List ℕ
followed l none = l
followed l (some k) = l ++ (k ∷ [])

module _ (pic : Picture) where
  -- arrow k would be the first in the list to reach the pair at place p
  unfoldable pub new : (l : List ℕ) (k p : ℕ) → Bool
  new l k p = meets pic p k && not (reached pic l p)

  module _ (m : ℕ) where
    -- arrow k can follow while the list stays honest: each pair that it would be the first to reach gets the picture's answer
    unfoldable pub fits : (l : List ℕ) (k : ℕ) → Bool
    fits l k = every (λ p. implies (new l k p) (right pic m p k)) (pairs pic)

    -- it can follow, and reaches a pair that nothing earlier reached
    unfoldable pub addable : (l : List ℕ) (k : ℕ) → Bool
    addable l k = of_mode pic.arrows m k && (fits l k && not (every (λ p. not (new l k p)) (pairs pic)))

    -- the lowest-numbered such arrow
    unfoldable pub next : (l : List ℕ) → Option ℕ
    next l = lowest (addable l) (arrow_count pic.arrows)

    -- the first n places of the list: at each stands the next arrow, and the list ends when there is none
    unfoldable pub list_to : (n : ℕ) → List ℕ
    list_to zero = []
    list_to (suc n) = let l = list_to n in followed l (next l)

    -- the list, which has no more places than there are arrows
    unfoldable pub greedy : List ℕ
    greedy = list_to (arrow_count pic.arrows)

    -- the first granted pair that a list does not reach
    unfoldable pub left_by : (l : List ℕ) → Option Refusal
    left_by l =
        first (λ p. given (granted pic m p && not (reached pic l p)) (NoOrder m (user_at pic p) (file_at pic p)))
        (pairs pic)

    -- 13: no honest list reaches every granted pair
    unfoldable pub order_fault : Option Refusal
    order_fault = left_by greedy

    -- the answer, by the fault of the whole call, if any: how many places the list takes
    unfoldable pub listed_of : (fault : Option Refusal) → Result ℕ Refusal
    listed_of none = Ok (length greedy)
    listed_of (some r) = Err r

    -- what goes into the list places once checks 1 to 12 have passed, by the fault of 13, if any: the list, or 65,535 in each needed place
    unfoldable pub places_of : (fault : Option Refusal) → List ℕ
    places_of none = greedy
    places_of (some r) = replicate (list_room pic m) no_arrow
