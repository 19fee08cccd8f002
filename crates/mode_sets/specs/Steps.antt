-- What the functions ask of and promise each other. Assumes nothing.
use Rattle.std.specs.Prelude.{◌≡◌, Bool, not, ◌&&◌, ◌||◌, List, ℕ, ◌+◌, ◌*◌, ◌<◌, ◌≤◌, T, eqb, length, get_or}
use Rattle.tables.specs.Rows.{arrow_count, arrow_at}
use Rattle.tables.specs.declared.Arrow.{Arrow}
use Rattle.boxsets.specs.Sets.{has}
use Rattle.mode_sets.specs.Mode.{heads_below, tails_below}

-- ---- what keeps every index in range

-- arrows whose ends and signs are small
pub record Small (arrows : List ℕ) : Type 0 where
  pub few : arrow_count arrows ≤ 512
  pub tail-small : (k : ℕ) → k < arrow_count arrows → (arrow_at arrows k).tail < 256
  pub head_small : (k : ℕ) → k < arrow_count arrows → (arrow_at arrows k).head < 256
  pub sign_small : (k : ℕ) → k < arrow_count arrows → (arrow_at arrows k).sign ≤ 1

-- each number is that of an arrow
abbrev pub Numbers : (arrows own : List ℕ) → Type 0
Numbers arrows own = (i : ℕ) → i < length own → get_or own i 0 < arrow_count arrows

-- ---- what the tables say

-- the words of the sets of a mode: one for each sign and tail, and one for each sign
abbrev pub heads_words : ℕ
heads_words = 2056

-- the sets of the mode's arrows below k
pub record SetsBelow (arrows : List ℕ) (mode k : ℕ) (heads : List ℕ) : Type 0 where
  pub len : length heads ≡ heads_words
  pub heads-are : (sign t g : ℕ) → sign ≤ 1 → t < 256 → has heads (256 * sign + t) g ≡ heads_below arrows mode k sign (λ x. eqb x t) g
  pub tails-are : (sign t : ℕ) → sign ≤ 1 → has heads (512 + sign) t ≡ tails_below arrows mode k sign t

-- of all
abbrev pub ModeSets : (arrows : List ℕ) (mode : ℕ) (heads : List ℕ) → Type 0
ModeSets arrows mode heads = SetsBelow arrows mode (arrow_count arrows) heads

-- an arrow was added to the sets, unless its head was there
pub record Took (heads : List ℕ) (a : Arrow) (r : Bool) (heads' : List ℕ) : Type 0 where
  pub len : length heads' ≡ length heads
  pub taken : r ≡ not (has heads (256 * a.sign + a.tail) a.head)
  pub heads-are : (sign t g : ℕ) → sign ≤ 1 → t < 256
      → has heads' (256 * sign + t) g ≡ (has heads (256 * sign + t) g || (eqb sign a.sign && eqb t a.tail) && eqb g a.head)
  pub tails-are : (sign t : ℕ) → sign ≤ 1 → T r → has heads' (512 + sign) t ≡ (has heads (512 + sign) t || eqb sign a.sign && eqb t a.tail)
  pub tails-stay : (T r → ⊥) → (sign t : ℕ) → sign ≤ 1 → has heads' (512 + sign) t ≡ has heads (512 + sign) t
