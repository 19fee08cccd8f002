-- What the functions that find the list ask of and promise each other: tables of a set of files for each user, and what they say of
-- a picture. Assumes nothing.
use Rattle.std.specs.Prelude.{◌≡◌, Bool, not, ◌&&◌, List, ℕ, ◌<◌, length, Result}
use Rattle.tables.specs.Rows.{Picture, user, file, arrow_at}
use Rattle.tables.specs.Atoms.{atom}
use Rattle.boxsets.specs.Sets.{has, table_words}
use Rattle.meaning.specs.Meaning.{reaches, answer, is_granted}
use Rattle.meaning.specs.Pairs.{unclear_fault}
use Rattle.list_meaning.specs.Order.{any_of}
use Rattle.list_meaning.specs.Calls.{list_answer, list_after, work_after}
use Rattle.tables.specs.declared.Refusal.{Refusal}

-- set u has f exactly if (u, f) is a pair at which the test holds
pub record Table (pic : Picture) (test : ℕ → ℕ → Bool) (t : List ℕ) : Type 0 where
  pub len : length t ≡ table_words
  pub each : (u f : ℕ) → u < 256
      → has t u f ≡ ((atom pic.boxes pic.rows user u && atom pic.boxes pic.rows file f) && test u f)

-- the list does not reach the pair
abbrev pub unreached : (pic : Picture) (l : List ℕ) (u f : ℕ) → Bool
unreached pic l u f = not (any_of (λ k. reaches pic (arrow_at pic.arrows k) u f) l)

-- the pair is granted
abbrev pub granted_to : (pic : Picture) (mode u f : ℕ) → Bool
granted_to pic mode u f = is_granted (answer pic mode u f)

-- what is answered, and what the list places and the work bytes hold, once checks 1 to 10 have passed
pub record Listing (pic : Picture) (m : ℕ) (out work : List ℕ) (r : Result ℕ Refusal) (out' work' : List ℕ) : Type 0 where
  pub answered : r ≡ list_answer pic m (unclear_fault pic m)
  pub list-after : out' ≡ list_after pic m (unclear_fault pic m) out
  pub work-after : work' ≡ work_after pic m (unclear_fault pic m) work
