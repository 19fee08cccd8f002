-- The third condition of acceptance, of one call for a list, with document 01's words on it: `third-condition`
-- (proofs/ConditionLaws.antt) says that every call that passes checks 1 to 12 meets it. A pair is given by the numbers of its boxes.
-- Assumes nothing.
use Rattle.std.specs.Prelude.{◌≡◌, ◌↔◌, Bool, List, ℕ, ◌<◌, ◌≤◌, T, length, get_or, take, replicate, Result, Ok, Err}
use Rattle.base.specs.Buffers.{written, zeros}
use Rattle.tables.specs.Rows.{Picture, user, file, no_arrow, arrow_at}
use Rattle.tables.specs.Atoms.{atom}
use Rattle.tables.specs.declared.Refusal.TheVariants.{NoOrder}
use Rattle.meaning.specs.Meaning.{reaches, answer, is_granted}
use Rattle.meaning.specs.Pairs.{Before, pairs}
use Rattle.list_meaning.specs.Lists.{gives, of_mode, list_room}
use Rattle.tables.specs.declared.Refusal.{Refusal}

module _ (pic : Picture) where
  -- (u, f) is a pair: an atomic user and an atomic file
  abbrev pub Pair : (u f : ℕ) → Type 0
  Pair u f = T (atom pic.boxes pic.rows user u) × T (atom pic.boxes pic.rows file f)

  -- arrow k reaches the pair (u, f)
  abbrev pub arrow_reaches : (u f k : ℕ) → Bool
  arrow_reaches u f k = reaches pic (arrow_at pic.arrows k) u f

  -- the list reaches the pair (u, f): one of its arrows does
  abbrev pub Reaches : (l : List ℕ) (u f : ℕ) → Type 0
  Reaches l u f = (i : ℕ) × (i < length l) × T (arrow_reaches u f (get_or l i 0))

  -- the arrow at place i is the first in the list that reaches the pair (u, f)
  abbrev pub FirstReaches : (l : List ℕ) (u f i : ℕ) → Type 0
  FirstReaches l u f i =
      (i < length l) × T (arrow_reaches u f (get_or l i 0)) × ((j : ℕ) → j < i → T (arrow_reaches u f (get_or l j 0)) → ⊥)

  module _ (m : ℕ) where
    -- (u, f) gets the picture's answer from the first arrow in the list that reaches it, if there is one
    abbrev pub GetsAnswer : (l : List ℕ) (u f : ℕ) → Type 0
    GetsAnswer l u f = (i : ℕ) → FirstReaches l u f i → T (gives (arrow_at pic.arrows (get_or l i 0)).sign (answer pic m u f))

    -- a list of the mode's arrows is honest if each pair that it reaches gets the picture's answer from the first arrow in the list
    -- that reaches it
    abbrev pub Honest : (l : List ℕ) → Type 0
    Honest l = ((i : ℕ) → i < length l → T (of_mode pic.arrows m (get_or l i 0))) × ((u f : ℕ) → Pair u f → GetsAnswer l u f)

    -- the list reaches every granted pair
    abbrev pub ReachesAll : (l : List ℕ) → Type 0
    ReachesAll l = (u f : ℕ) → Pair u f → T (is_granted (answer pic m u f)) → Reaches l u f

    -- some honest list reaches every granted pair
    abbrev pub SomeReachesAll : Type 0
    SomeReachesAll = (l : List ℕ) × Honest l × ReachesAll l

    -- some honest list reaches the pair (u, f)
    abbrev pub SomeReaches : (u f : ℕ) → Type 0
    SomeReaches u f = (l : List ℕ) × Honest l × Reaches l u f

    -- (u, f) is the first granted pair, by user, then file, that no honest list whatever reaches
    pub record FirstUnreached (u f : ℕ) : Type 0 where
      pub is-pair : Pair u f
      pub is-granted : T (is_granted (answer pic m u f))
      pub unreached : SomeReaches u f → ⊥
      pub before : (v g : ℕ) → Pair v g → Before v g u f → T (is_granted (answer pic m v g)) → SomeReaches v g

    -- the list written is the n counted list places from place 0 on: it is honest, has no arrow twice and reaches every granted pair,
    -- and places beyond the count stay untouched
    pub record WrittenList (n : ℕ) (out out' : List ℕ) : Type 0 where
      pub there : n ≤ length out
      pub same-places : length out' ≡ length out
      pub is-honest : Honest (take n out')
      pub once : (i j : ℕ) → i < j → j < n → get_or out' i 0 ≡ get_or out' j 0 → ⊥
      pub reaches_all : ReachesAll (take n out')
      pub beyond : (p : ℕ) → n ≤ p → get_or out' p 0 ≡ get_or out p 0

    -- the call's answer r, and the list places and work bytes before and after
    pub record Condition3 (out work : List ℕ) (r : Result ℕ Refusal) (out' work' : List ℕ) : Type 0 where
      -- a list is written exactly when some honest list reaches every granted pair of the mode
      pub writes : ((n : ℕ) × (r ≡ Ok n)) ↔ SomeReachesAll
      pub written-list : (n : ℕ) → r ≡ Ok n → WrittenList n out out'
      -- exactly when no honest list reaches them all, the answer is "no order", 13, and it names that first pair
      pub no-order : ((u f : ℕ) × (r ≡ Err (NoOrder m u f))) ↔ (SomeReachesAll → ⊥)
      pub names : (u f : ℕ) → r ≡ Err (NoOrder m u f) → FirstUnreached u f
      -- 13 sets the needed list places to 65,535, and the needed work bytes are 0 after both
      pub blanked : (u f : ℕ) → r ≡ Err (NoOrder m u f) → out' ≡ written (replicate (list_room pic m) no_arrow) out
      pub work-after : work' ≡ written (zeros (pairs pic)) work
