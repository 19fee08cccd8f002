-- How an arrow stands to a list, by sets alone: `left` has for each user the files that the list does not reach yet, `granted` those
-- that are granted. Assumes nothing.
use Rattle.std.specs.Prelude.{◌≡◌, Bool, true, false, not, cond, ◌&&◌, List, ℕ, ◌<◌, eqb}
use Rattle.base.specs.Steps.{any_below}
use Rattle.tables.specs.declared.Arrow.{Arrow}
use Rattle.meaning.specs.Meaning.{positive}
use Rattle.boxsets.specs.Sets.{is_in, set_at, has}
use Rattle.boxsets.specs.declared.Set.{Set}
use Rattle.list_standing.specs.declared.Standing.{Standing}
use Rattle.list_standing.specs.declared.Standing.TheVariants.{Blocked, Spent, Free}

-- what a test says of each number that a box can have, by what its calls may answer
abbrev pub Tells : (says : ℕ → Bool → Type 0) (p : ℕ → Bool) → Type 0
Tells says p = (k : ℕ) (b : Bool) → k < 256 → says k b → b ≡ p k

-- one of the users has one of the files at which the test holds
unfoldable pub some_in : (users : ℕ → Bool) (files : Set) (test : ℕ → ℕ → Bool) → Bool
some_in users files test = any_below (λ u. users u && any_below (λ f. is_in files f && test u f) 256) 256

-- the pair is left, and an arrow of the sign would give it the wrong answer
unfoldable pub wrong_at : (left granted : List ℕ) (sign u f : ℕ) → Bool
wrong_at left granted sign u f = has left u f && cond (eqb sign positive) (not (has granted u f)) (has granted u f)

-- an arrow is blocked if it would give a pair that is left the wrong answer, spent if it reaches no pair that is left, else free
unfoldable pub standing_of : (wrong new : Bool) → Standing
standing_of true new = Blocked
standing_of false true = Free
standing_of false false = Spent

-- how the arrow stands, by the closure
unfoldable pub standing_by : (closure left granted : List ℕ) (a : Arrow) → Standing
standing_by closure left granted a =
    standing_of (some_in (is_in (set_at closure a.tail)) (set_at closure a.head) (wrong_at left granted a.sign))
    (some_in (is_in (set_at closure a.tail)) (set_at closure a.head) (has left))
