-- What a picture says of a pair (document 01, "Meaning"; source 002, section 4). Assumes nothing.
use Rattle.std.specs.Prelude.{Bool, not, ◌&&◌, ◌||◌, List, ℕ, eqb}
use Rattle.std.specs.Prelude.{Option, None as none, Some as some}
use Rattle.base.specs.Search.{implies, every, lowest, select}
use Rattle.tables.specs.Rows.{Picture, no_arrow, arrow_count, arrow_at}
use Rattle.tables.specs.declared.Arrow.{Arrow}
use Rattle.containment.specs.Contains.{contains, around}
use Rattle.meaning.specs.declared.Entry.{Entry}
use Rattle.meaning.specs.declared.Entry.TheVariants.{Granted, Denied, Default, Unclear}

-- the two signs
abbrev pub positive : ℕ
positive = 1

abbrev pub negative : ℕ
negative = 0

-- arrow k has the mode
unfoldable pub has_mode : (arrows : List ℕ) (mode k : ℕ) → Bool
has_mode arrows mode k = eqb (arrow_at arrows k).mode mode

-- the numbers of the mode's arrows, rising
unfoldable pub mode_arrows : (arrows : List ℕ) (mode : ℕ) → List ℕ
mode_arrows arrows mode = select (has_mode arrows mode) (arrow_count arrows)

-- the answer, by the lowest certificate of each sign and the lowest arrow of each sign, positive first
unfoldable pub settle : (grants denies positive negative : Option ℕ) → Entry
settle (some k) d p n = Granted k
settle none (some k) p n = Denied k
settle none none (some p) (some n) = Unclear p n
settle none none (some p) none = Default
settle none none none n = Default

module _ (pic : Picture) where
  -- an arrow reaches the pair (u, f): its tail is u or contains u, and its head is f or contains f
  unfoldable pub reaches : (arrow : Arrow) (u f : ℕ) → Bool
  reaches arrow u f = around pic.rows arrow.tail u && around pic.rows arrow.head f

  -- of two boxes around the same atom, the inner one is nested in the outer one: by the drawn containment
  unfoldable pub nests : (outer inner : ℕ) → Bool
  nests outer inner = contains pic.rows outer inner

  -- level: the same box, or neither is nested in the other
  unfoldable pub level : (a b : ℕ) → Bool
  level a b = eqb a b || not (nests a b) && not (nests b a)

  -- p overrides n unless p's tail contains n's tail, or p's head contains n's head, or the tails are level and the heads are level
  unfoldable pub overrides : (p n : Arrow) → Bool
  overrides p n =
      not
      (nests p.tail n.tail
      || nests p.head n.head
      || level p.tail n.tail && level p.head n.head)

  module _ (mode : ℕ) where
    -- arrow k has the mode and the sign, and reaches the pair
    unfoldable pub hits : (sign u f k : ℕ) → Bool
    hits sign u f k = has_mode pic.arrows mode k && (eqb (arrow_at pic.arrows k).sign sign && reaches (arrow_at pic.arrows k) u f)

    -- arrow k is a certificate of the sign: it reaches the pair and overrides every arrow of the opposite sign that does
    unfoldable pub certifies : (sign opposite u f k : ℕ) → Bool
    certifies sign opposite u f k =
        hits sign u f k
        && every (λ j. implies (hits opposite u f j) (overrides (arrow_at pic.arrows k) (arrow_at pic.arrows j))) (arrow_count pic.arrows)

    unfoldable pub answer : (u f : ℕ) → Entry
    answer u f =
        settle
        (lowest (certifies positive negative u f) (arrow_count pic.arrows))
        (lowest (certifies negative positive u f) (arrow_count pic.arrows))
        (lowest (hits positive u f) (arrow_count pic.arrows))
        (lowest (hits negative u f) (arrow_count pic.arrows))

-- each case in the matrix: 0 denied, 1 granted, 2 unclear
unfoldable pub byte_of : (e : Entry) → ℕ
byte_of (Granted k) = 1
byte_of (Denied k) = 0
byte_of Default = 0
byte_of (Unclear p n) = 2

-- and its arrow, or 65,535 for default and unclear
unfoldable pub number_of : (e : Entry) → ℕ
number_of (Granted k) = k
number_of (Denied k) = k
number_of Default = no_arrow
number_of (Unclear p n) = no_arrow

unfoldable pub is_granted : (e : Entry) → Bool
is_granted e = eqb (byte_of e) 1

unfoldable pub is_unclear : (e : Entry) → Bool
is_unclear e = eqb (byte_of e) 2
