-- What the functions ask of and promise each other. Assumes nothing.
use Rattle.std.specs.Prelude.{◌≡◌, Bool, false, ◌&&◌, List, ℕ, ◌<◌, T, eqb, length, get_or, replicate}
use Rattle.std.specs.Prelude.{Some as some}
use Rattle.base.specs.Search.{lowest}
use Rattle.tables.specs.Rows.{Picture, user, file, arrow_count, arrow_at, no_arrow}
use Rattle.tables.specs.Atoms.{atom, atoms}
use Rattle.meaning.specs.Meaning.{positive, negative, answer, is_granted, is_unclear}
use Rattle.boxsets.specs.Sets.{is_in}
use Rattle.boxsets.specs.declared.Set.{Set}
use Rattle.mode_sets.specs.Mode.{own_arrows}
use Rattle.mode_sets.specs.Steps.{Small, Numbers, ModeSets, heads_words}
use Rattle.certificates.specs.Steps.{Drawn, NearBy}
use Rattle.user_rows.specs.Row.{shows}
use Rattle.user_rows.specs.declared.around.Around.{Around}
use Rattle.user_rows.specs.declared.Row.{Row}
use Rattle.containment.specs.Steps.{closure_words}

-- ---- what keeps every index in range

-- the tables of a row, by their lengths, and the mode's arrows
pub record Sized (closure heads arrows own : List ℕ) : Type 0 where
  pub closure-len : length closure ≡ closure_words
  pub heads-len : length heads ≡ heads_words
  pub small : Small arrows
  pub numbers : Numbers arrows own

-- ---- what the tables say

-- the picture of a call, its atomic users and the set of its atomic files
pub record Ready (pic : Picture) (closure arrows users : List ℕ) (files : Set) : Type 0 where
  pub drawn : Drawn pic closure
  pub arrows-are : arrows ≡ pic.arrows
  pub users-are : users ≡ atoms pic.boxes pic.rows user
  pub files-are : (k : ℕ) → is_in files k ≡ atom pic.boxes pic.rows file k

-- the sets and the arrows of a mode of the picture
pub record Moded (pic : Picture) (mode : ℕ) (heads arrows own : List ℕ) : Type 0 where
  pub arrows-are : arrows ≡ pic.arrows
  pub sets : ModeSets pic.arrows mode heads
  pub own-are : own ≡ own_arrows pic.arrows mode

module _ (pic : Picture) (mode : ℕ) where
  -- of both signs
  pub record AroundBy (u : ℕ) (asked : ℕ → Bool) (x : Around) : Type 0 where
    pub user-is : x.user ≡ u
    pub denying : NearBy pic mode negative u asked x.negative
    pub granting : NearBy pic mode positive u asked x.positive

  -- a walk over the mode's own arrows below place i, from some files: those left have no certificate there; each other one has its lowest
  -- certificate, whose number stands for the file, and is granted if that is positive. Nothing else is granted or gets a number.
  pub record Walked (u : ℕ) (files left granted : ℕ → Bool) (before after : ℕ → ℕ) (i : ℕ) : Type 0 where
    pub left_open : (f : ℕ) → T (left f)
        → T (files f) × ((j : ℕ) → j < i → T (shows pic mode u f (get_or (own_arrows pic.arrows mode) j 0)) → ⊥)
    pub gone-shown : (f : ℕ) → T (files f) → (T (left f) → ⊥)
        → (lowest (shows pic mode u f) (arrow_count pic.arrows) ≡ some (after f))
        × (granted f ≡ eqb (arrow_at pic.arrows (after f)).sign positive)
    pub others : (f : ℕ) → (T (files f) → T (left f)) → (granted f ≡ false) × (after f ≡ before f)

  -- of the asked files, those that are granted and those that are unclear
  pub record Sorts (u : ℕ) (asked : ℕ → Bool) (r : Row) : Type 0 where
    pub granted-are : (f : ℕ) → is_in r.granted f ≡ (asked f && is_granted (answer pic mode u f))
    pub unclear-are : (f : ℕ) → is_in r.unclear f ≡ (asked f && is_unclear (answer pic mode u f))

-- 256 times 65,535
unfoldable pub blank_row : List ℕ
blank_row = replicate 256 no_arrow
