-- For the crates above: the matrix of a mode row by row, the search for a pair place by place, and the first unclear pair.
-- Assumes nothing.
use mathlib.Core.Path.{◌≡◌, refl, ap}
use mathlib.Core.Bool.{Bool, false, cond}
use Rattle.std.specs.Prelude.{None as none}
use Prim.Native.Nat.{ℕ, ◌+◌, ◌*◌, ◌<◌}
use lib.Dec.{T}
use lib.ListN.{length, get_or}
use Rattle.base.specs.Search.{first, given}
use Rattle.base.specs.Buffers.{build}
use Rattle.base.proofs.Tests.{not-false}
use Rattle.tables.specs.Rows.{Picture, user, file}
use Rattle.tables.specs.Atoms.{atom}
use Rattle.tables.specs.declared.Refusal.TheVariants.{UnclearPair}
use Rattle.tables.specs.declared.Refusal.{Refusal}
use Rattle.tables.proofs.AtomPlaces.{pair_count-is}
use Rattle.meaning.specs.Meaning.{answer, byte_of, number_of, is_granted, is_unclear}
use Rattle.meaning.specs.Pairs.{users, files, pairs, user_at, file_at, answer_at, matrix_bytes, matrix_numbers, unclear_fault}
use Rattle.meaning.specs.Steps.{first_pair, byte_at, number_at}
use Rattle.meaning.specs.declared.Entry.{Entry}
use Rattle.meaning.specs.declared.Entry.TheVariants.{Granted, Denied, Default, Unclear}
use Rattle.meaning.proofs.PairLaws.{first_pair-none}
use Rattle.meaning.proofs.RowPairs.{row-place}

-- ---- the matrix

-- the byte of an answer, by whether it grants and whether it is unclear
pub byte-by : (e : Entry) → byte_of e ≡ cond (is_granted e) 1 (cond (is_unclear e) 2 0)
unfolding byte_of is_granted is_unclear
byte-by (Granted k) = refl
byte-by (Denied k) = refl
byte-by Default = refl
byte-by (Unclear p n) = refl

module _ (pic : Picture) (m : ℕ) where
  -- row i is the user's, column j the file's
  pub byte-place : (i j : ℕ) → j < length (files pic)
      → byte_at pic m (i * length (files pic) + j) ≡ byte_of (answer pic m (get_or (users pic) i 0) (get_or (files pic) j 0))
  unfolding byte_at
  byte-place i j l = ap byte_of (row-place pic m i j l)

  pub number-place : (i j : ℕ) → j < length (files pic)
      → number_at pic m (i * length (files pic) + j) ≡ number_of (answer pic m (get_or (users pic) i 0) (get_or (files pic) j 0))
  unfolding number_at
  number-place i j l = ap number_of (row-place pic m i j l)

  -- a place for each user and file
  pub bytes-are : matrix_bytes pic m ≡ build (byte_at pic m) (length (users pic) * length (files pic))
  unfolding matrix_bytes byte_at
  bytes-are = rw pair_count-is

  pub numbers-are : matrix_numbers pic m ≡ build (number_at pic m) (length (users pic) * length (files pic))
  unfolding matrix_numbers number_at
  numbers-are = rw pair_count-is

-- ---- the search for a pair, place by place

pub first_pair-places : (pic : Picture) (t : ℕ → ℕ → Bool) (r : ℕ → ℕ → Refusal)
    → first_pair pic t r ≡ first (λ p. given (t (user_at pic p) (file_at pic p)) (r (user_at pic p) (file_at pic p))) (pairs pic)
unfolding first_pair
first_pair-places pic t r = refl

-- ---- the first unclear pair

module _ (pic : Picture) (m : ℕ) where
  pub unclear-first : unclear_fault pic m ≡ first_pair pic (λ u f. is_unclear (answer pic m u f)) (UnclearPair m)
  unfolding unclear_fault first_pair answer_at
  unclear-first = refl

  -- where there is none, no pair is unclear
  pub clear-pair : unclear_fault pic m ≡ none → (u f : ℕ) → T (atom pic.boxes pic.rows user u) → T (atom pic.boxes pic.rows file f)
      → is_unclear (answer pic m u f) ≡ false
  clear-pair clear u f a b =
      not-false (is_unclear (answer pic m u f))
      (first_pair-none pic (λ u f. is_unclear (answer pic m u f)) (UnclearPair m) (rw unclear-first at clear) u f a b)
