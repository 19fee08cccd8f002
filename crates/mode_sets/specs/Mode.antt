-- The arrows of a mode: the heads and the tails of those of a sign, and those that repeat no lower one. A set of boxes is a test on numbers
-- here; the code's tables say the same tests. Assumes nothing.
use Rattle.std.specs.Prelude.{Bool, not, ◌&&◌, List, ℕ, eqb}
use Rattle.base.specs.Search.{select}
use Rattle.base.specs.Steps.{any_below}
use Rattle.tables.specs.Rows.{arrow_count, arrow_at}
use Rattle.meaning.specs.Meaning.{has_mode}

-- arrows k and j have the same ends, mode and sign
unfoldable pub same : (arrows : List ℕ) (k j : ℕ) → Bool
same arrows k j =
    (eqb (arrow_at arrows k).tail (arrow_at arrows j).tail && eqb (arrow_at arrows k).head (arrow_at arrows j).head)
    && (eqb (arrow_at arrows k).mode (arrow_at arrows j).mode && eqb (arrow_at arrows k).sign (arrow_at arrows j).sign)

module _ (arrows : List ℕ) (mode : ℕ) where
  -- arrow k has the mode and the sign, and its tail is one of the tails
  unfoldable pub leaves : (sign : ℕ) (tails : ℕ → Bool) (k : ℕ) → Bool
  leaves sign tails k = has_mode arrows mode k && (eqb (arrow_at arrows k).sign sign && tails (arrow_at arrows k).tail)

  -- box g is the head of an arrow of the mode and the sign from these tails, of those below k
  unfoldable pub heads_below : (k sign : ℕ) (tails : ℕ → Bool) (g : ℕ) → Bool
  heads_below k sign tails g = any_below (λ j. leaves sign tails j && eqb (arrow_at arrows j).head g) k

  -- of all
  abbrev pub heads_of : (sign : ℕ) (tails : ℕ → Bool) (g : ℕ) → Bool
  heads_of sign tails g = heads_below (arrow_count arrows) sign tails g

  -- box t is the tail of an arrow of the mode and the sign, of those below k
  unfoldable pub tails_below : (k sign t : ℕ) → Bool
  tails_below k sign t = any_below (leaves sign (λ x. eqb x t)) k

  -- arrow k has the mode, and no lower arrow has its ends, mode and sign
  unfoldable pub is_own : (k : ℕ) → Bool
  is_own k = has_mode arrows mode k && not (any_below (same arrows k) k)

  -- the numbers of the mode's arrows that repeat no lower one, rising
  unfoldable pub own_arrows : List ℕ
  own_arrows = select is_own (arrow_count arrows)
