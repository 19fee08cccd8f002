-- What the functions ask of and promise each other: how the list is found. Assumes nothing.
use Rattle.std.specs.Prelude.{◌≡◌, Bool, true, false, not, ◌&&◌, List, ℕ, ◌<◌, ◌≤◌, length, get_or}
use Rattle.std.specs.Prelude.{None as none}
use Rattle.base.specs.Buffers.{written}
use Rattle.tables.specs.Rows.{Picture, arrow_at}
use Rattle.boxsets.specs.Sets.{is_in, has}
use Rattle.boxsets.specs.declared.Set.{Set}
use Rattle.meaning.specs.Pairs.{unclear_fault}
use Rattle.mode_sets.specs.Mode.{own_arrows}
use Rattle.certificates.specs.Steps.{Drawn}
use Rattle.list_meaning.specs.Greedy.{greedy}
use Rattle.list_meaning.specs.Steps.{Table, unreached, granted_to}
use Rattle.list_standing.specs.Steps.{standing_by}
use Rattle.list_standing.specs.declared.Standing.TheVariants.{Spent, Free}

-- ---- by sets alone

-- a place that is marked is that of a spent arrow
abbrev pub Done : (closure arrows own left granted : List ℕ) (done : List Bool) → Type 0
Done closure arrows own left granted done =
    (i : ℕ) → i < length own → get_or done i false ≡ true → standing_by closure left granted (arrow_at arrows (get_or own i 0)) ≡ Spent

-- the places before `from` are those of spent arrows
abbrev pub SpentBefore : (closure arrows own left granted : List ℕ) (from : ℕ) → Type 0
SpentBefore closure arrows own left granted from =
    (i : ℕ) → i < from → standing_by closure left granted (arrow_at arrows (get_or own i 0)) ≡ Spent

-- the places from `from` on are marked up to r
abbrev pub MarkedTo : (done : List Bool) (from r : ℕ) → Type 0
MarkedTo done from r = (i : ℕ) → from ≤ i → i < r → get_or done i false ≡ true

-- no place before r is that of a free arrow
abbrev pub NoneFree : (closure arrows own left granted : List ℕ) (r : ℕ) → Type 0
NoneFree closure arrows own left granted r =
    (i : ℕ) → i < r → standing_by closure left granted (arrow_at arrows (get_or own i 0)) ≡ Free → ⊥

-- r is the first place whose arrow is free
pub record NextFree (closure arrows own left granted : List ℕ) (r : ℕ) : Type 0 where
  pub there : r < length own
  pub none_before : NoneFree closure arrows own left granted r
  pub holds : standing_by closure left granted (arrow_at arrows (get_or own r 0)) ≡ Free

-- the files were taken from what each of the users has left
pub record Takes (users : ℕ → Bool) (files : Set) (left left' : List ℕ) : Type 0 where
  pub len : length left' ≡ length left
  pub each : (u f : ℕ) → has left' u f ≡ (has left u f && not (users u && is_in files f))

-- ---- what the sets say of a picture

-- a picture with no unclear pair in the mode, its closure, the mode's arrows without repeats, and the granted files
pub record Clear (pic : Picture) (mode : ℕ) (closure arrows own granted : List ℕ) : Type 0 where
  pub drawn : Drawn pic closure
  pub arrows-are : arrows ≡ pic.arrows
  pub own-are : own ≡ own_arrows pic.arrows mode
  pub clear : unclear_fault pic mode ≡ none
  pub says : Table pic (granted_to pic mode) granted

-- the list stands in the first places, and what is left is what it does not reach
pub record Ordered (pic : Picture) (mode : ℕ) (old : List ℕ) (count : ℕ) (out left : List ℕ) : Type 0 where
  pub counted : count ≡ length (greedy pic mode)
  pub listed : out ≡ written (greedy pic mode) old
  pub shown : Table pic (unreached pic (greedy pic mode)) left
