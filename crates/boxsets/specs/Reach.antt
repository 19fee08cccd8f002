-- What a walk over the numbers of a set still has to give: `from` + each number of a set. Assumes nothing.
use Rattle.std.specs.Prelude.{Bool, ◌&&◌, ℕ, ◌+◌, ◌-◌, ◌<◌, T, nat_le}
use Rattle.boxsets.specs.Sets.{is_in}
use Rattle.boxsets.specs.declared.Set.{Set}

-- k is `from` + a number of the set
unfoldable pub reaches : (from : ℕ) (rest : Set) (k : ℕ) → Bool
reaches from rest k = nat_le from k && is_in rest (k - from)

-- these numbers are below 256
abbrev pub InReach : (from : ℕ) (rest : Set) → Type 0
InReach from rest = (k : ℕ) → T (is_in rest k) → from + k < 256
