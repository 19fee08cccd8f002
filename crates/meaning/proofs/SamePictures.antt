-- Pictures with the same atomic boxes, in which the same boxes contain each other, give the same answers, matrix and verdict. So
-- repeated rows change nothing (`repeated` of containment), nor does it matter whether a box that holds something is a user group or
-- folder by its byte: it is not atomic either way. Assumes nothing.
use mathlib.Core.Path.{◌≡◌, refl, ap, fun_ext}
use mathlib.Core.Logic.{◌↔◌}
use mathlib.Core.List.{List}
use Prim.Native.Nat.{ℕ}
use Rattle.tables.specs.Rows.{Picture, picture}
use Rattle.tables.specs.Atoms.{atoms, pair_count}
use Rattle.tables.specs.declared.Arrow.{Arrow}
use Rattle.base.proofs.SearchLaws.{first-same}
use Rattle.base.proofs.BufferLaws.{build-same}
use Rattle.tables.proofs.AtomPlaces.{pair_count-is, atoms-by-outer}
use Rattle.tables.proofs.GroupLaws.{SameBoxes, atoms-by-bytes}
use Rattle.containment.specs.Contains.{Row, contains}
use Rattle.containment.proofs.ContainsLaws.{around-test, same-contains, same-outer}
use Rattle.meaning.specs.Meaning.{positive, negative, reaches, nests, level, overrides, hits, certifies, answer, byte_of, number_of}
use Rattle.meaning.specs.Pairs.{pairs, user_at, file_at, answer_at, matrix_bytes, matrix_numbers, unclear_fault, any_unclear}
use Rattle.meaning.specs.Steps.{byte_at, number_at}

-- two pictures with the same arrows have the same pairs, with the same answers
pub record SameAnswers (one other : Picture) : Type 0 where
  pub atomic : (s : ℕ) → atoms one.boxes one.rows s ≡ atoms other.boxes other.rows s
  pub same-pairs : pairs one ≡ pairs other
  pub users : (p : ℕ) → user_at one p ≡ user_at other p
  pub files : (p : ℕ) → file_at one p ≡ file_at other p
  pub reached : (a : Arrow) (u f : ℕ) → reaches one a u f ≡ reaches other a u f
  pub answers : (m u f : ℕ) → answer one m u f ≡ answer other m u f
  pub answered : (m p : ℕ) → answer_at one m p ≡ answer_at other m p
  pub bytes : (m : ℕ) → matrix_bytes one m ≡ matrix_bytes other m
  pub numbers : (m : ℕ) → matrix_numbers one m ≡ matrix_numbers other m
  pub unclear : any_unclear one ≡ any_unclear other

module _ (boxes rows others new arrows : List ℕ)
    (same-atoms : (s : ℕ) → atoms boxes rows s ≡ atoms others new s)
    (same : (a b : ℕ) → contains rows a b ≡ contains new a b) where
  abbrev one : Picture
  one = picture boxes rows arrows

  abbrev other : Picture
  other = picture others new arrows

  same-pairs : pair_count boxes rows ≡ pair_count others new
  same-pairs = simp (pair_count-is, same-atoms)

  same-users : (p : ℕ) → user_at one p ≡ user_at other p
  unfolding user_at
  same-users p = simp same-atoms

  same-files : (p : ℕ) → file_at one p ≡ file_at other p
  unfolding file_at
  same-files p = simp same-atoms

  same-reaches : (a : Arrow) (u f : ℕ) → reaches one a u f ≡ reaches other a u f
  unfolding reaches
  same-reaches a u f = simp (around-test, same)

  same-hits : (m s u f k : ℕ) → hits one m s u f k ≡ hits other m s u f k
  unfolding hits
  same-hits m s u f k = simp same-reaches

  same-certifies : (m s o u f k : ℕ) → certifies one m s o u f k ≡ certifies other m s o u f k
  unfolding certifies overrides level nests
  same-certifies m s o u f k = simp (same-hits, same)

  same_answer : (m u f : ℕ) → answer one m u f ≡ answer other m u f
  unfolding answer
  same_answer m u f =
      rw (
        fun_ext (same-certifies m positive negative u f),
        fun_ext (same-certifies m negative positive u f),
        fun_ext (same-hits m positive u f),
        fun_ext (same-hits m negative u f),
      )

  same_at : (m p : ℕ) → answer_at one m p ≡ answer_at other m p
  unfolding answer_at
  same_at m p = simp (same-users, same-files, same_answer)

  same_bytes : (m : ℕ) → matrix_bytes one m ≡ matrix_bytes other m
  unfolding matrix_bytes byte_at
  same_bytes m = rw same-pairs (build-same _ _ (pair_count others new) (λ p _. ap byte_of (same_at m p)))

  same_numbers : (m : ℕ) → matrix_numbers one m ≡ matrix_numbers other m
  unfolding matrix_numbers number_at
  same_numbers m = rw same-pairs (build-same _ _ (pair_count others new) (λ p _. ap number_of (same_at m p)))

  same-unclear : any_unclear one ≡ any_unclear other
  unfolding any_unclear unclear_fault answer_at
  same-unclear = first-same _ _ 8 (λ m _. simp (same-pairs, same-users, same-files, same_answer))

  same-answers : SameAnswers one other
  same-answers = record {
    atomic = same-atoms;
    same-pairs = same-pairs;
    users = same-users;
    files = same-files;
    reached = same-reaches;
    answers = same_answer;
    answered = same_at;
    bytes = same_bytes;
    numbers = same_numbers;
    unclear = same-unclear;
  }

-- tables with the same rows
pub same_rows : (boxes rows new arrows : List ℕ) → ((a b : ℕ) → Row rows a b ↔ Row new a b) → SameAnswers (picture boxes rows arrows) (picture boxes new arrows)
same_rows boxes rows new arrows same =
    same-answers boxes rows boxes new arrows (atoms-by-outer boxes rows new (same-outer rows new same)) (same-contains rows new same)

-- box tables that agree on the sides, and on user groups and folders wherever a box is the outer one of no row
pub same-boxes : (boxes others rows arrows : List ℕ) → SameBoxes boxes others rows → SameAnswers (picture boxes rows arrows) (picture others rows arrows)
same-boxes boxes others rows arrows same =
    same-answers boxes rows others rows arrows (atoms-by-bytes boxes others rows same) (λ a b. refl)
