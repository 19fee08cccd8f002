-- Searches over the numbers below n, from 0 up. Assumes nothing.
use Rattle.std.specs.Prelude.{Bool, true, not, ◌&&◌, ◌||◌, cond, List, [], ◌∷◌, ◌++◌, ℕ, zero, suc}
use Rattle.std.specs.Prelude.{Option, None as none, Some as some}

-- where the first holds, the second does
abbrev pub implies : (a b : Bool) → Bool
implies a b = not a || b

-- the first of two that is there
unfoldable pub or_else : {A : Type 0} (one other : Option A) → Option A
or_else (some x) o = some x
or_else none o = o

-- x where the test holds
unfoldable pub given : {A : Type 0} (test : Bool) (x : A) → Option A
given test x = cond test (some x) none

-- what g gives at the lowest number at which it gives something
unfoldable pub first : {A : Type 0} (g : ℕ → Option A) (n : ℕ) → Option A
first g zero = none
first g (suc n) = or_else (first g n) (g n)

-- the lowest number at which the test holds
unfoldable pub lowest : (p : ℕ → Bool) (n : ℕ) → Option ℕ
lowest p n = first (λ k. given (p k) k) n

-- the test holds at each number
unfoldable pub every : (p : ℕ → Bool) (n : ℕ) → Bool
every p zero = true
every p (suc n) = every p n && p n

-- the numbers at which the test holds, rising
unfoldable pub select : (p : ℕ → Bool) (n : ℕ) → List ℕ
select p zero = []
select p (suc n) = cond (p n) (select p n ++ (n ∷ [])) (select p n)
