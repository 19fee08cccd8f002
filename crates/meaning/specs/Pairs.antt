-- The pairs of an atomic user and an atomic file: rows are the users, columns the files, both by rising number. Assumes nothing.
use Rattle.std.specs.Prelude.{◌≡◌, ◌⊎◌, List, ℕ, ◌/◌, ◌%◌, ◌<◌, length, get_or}
use Rattle.std.specs.Prelude.{Option}
use Rattle.base.specs.Search.{first, given}
use Rattle.base.specs.Buffers.{build}
use Rattle.tables.specs.Rows.{Picture, user, file}
use Rattle.tables.specs.Atoms.{atoms, pair_count}
use Rattle.tables.specs.declared.Refusal.TheVariants.{UnclearPair}
use Rattle.tables.specs.declared.Refusal.{Refusal}
use Rattle.meaning.specs.Meaning.{answer, byte_of, number_of, is_unclear}
use Rattle.meaning.specs.declared.Entry.{Entry}

-- the pair (u, f) comes before (v, g), by user, then file
abbrev pub Before : (u f v g : ℕ) → Type 0
Before u f v g = (u < v) ⊎ ((u ≡ v) × (f < g))

module _ (pic : Picture) where
  -- the atomic users and the atomic files, and how many pairs there are
  abbrev pub users : List ℕ
  users = atoms pic.boxes pic.rows user

  abbrev pub files : List ℕ
  files = atoms pic.boxes pic.rows file

  abbrev pub pairs : ℕ
  pairs = pair_count pic.boxes pic.rows

  -- the user and the file of the pair at a place
  unfoldable pub user_at : (place : ℕ) → ℕ
  user_at place = get_or users (place / length files) 0

  unfoldable pub file_at : (place : ℕ) → ℕ
  file_at place = get_or files (place % length files) 0

  -- the answer for the pair at a place
  unfoldable pub answer_at : (mode place : ℕ) → Entry
  answer_at mode place = answer pic mode (user_at place) (file_at place)

  -- the matrix of a mode: a byte and a number for each pair
  unfoldable pub matrix_bytes : (mode : ℕ) → List ℕ
  matrix_bytes mode = build (λ p. byte_of (answer_at mode p)) pairs

  unfoldable pub matrix_numbers : (mode : ℕ) → List ℕ
  matrix_numbers mode = build (λ p. number_of (answer_at mode p)) pairs

  -- 12: the mode has an unclear pair; the first, by user, then file
  unfoldable pub unclear_fault : (mode : ℕ) → Option Refusal
  unclear_fault mode = first (λ p. given (is_unclear (answer_at mode p)) (UnclearPair mode (user_at p) (file_at p))) pairs

  -- the first unclear pair by mode, then user, then file
  unfoldable pub any_unclear : Option Refusal
  any_unclear = first unclear_fault 8
