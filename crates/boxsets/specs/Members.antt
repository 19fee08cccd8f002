-- What a walk over the numbers of a set gives, one by one. Assumes nothing.
use Rattle.std.specs.Prelude.{◌≡◌, Bool, false, not, ◌&&◌, ℕ, ◌<◌, T, eqb, Option, MatchOption}
use Rattle.boxsets.specs.Reach.{reaches}
use Rattle.boxsets.specs.declared.Members.{Members}

-- k is one of the numbers that are still to come
unfoldable pub to_come : (s : Members) (k : ℕ) → Bool
to_come s k = reaches s.from s.rest k

-- k is the lowest number for which the test p holds, and q holds for the others
pub record TakesLowest (p : ℕ → Bool) (k : ℕ) (q : ℕ → Bool) : Type 0 where
  pub below : k < 256
  pub there : T (p k)
  pub lowest : (j : ℕ) → j < k → T (p j) → ⊥
  pub others : (j : ℕ) → q j ≡ (p j && not (eqb j k))

-- a call from s that gave r and left t: the lowest of the numbers to come, or `None` where none is to come
abbrev pub NextOf : (s : Members) (r : Option ℕ) (t : Members) → Type 0
NextOf s r t = MatchOption r ((j : ℕ) → (to_come s j ≡ false) × (to_come t j ≡ false)) (λ k. TakesLowest (to_come s) k (to_come t))
