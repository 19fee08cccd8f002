-- What the functions promise each other is said with these. Assumes nothing.
use Rattle.std.specs.Prelude.{Bool, cond, ℕ}
use Rattle.std.specs.Prelude.{Option}
use Rattle.base.specs.Search.{first, given}
use Rattle.tables.specs.Rows.{Picture, no_arrow}
use Rattle.tables.specs.declared.Refusal.{Refusal}
use Rattle.meaning.specs.Meaning.{byte_of, number_of, is_granted}
use Rattle.meaning.specs.Pairs.{pairs, user_at, file_at, answer_at}
use Rattle.meaning.specs.declared.Entry.{Entry}

-- the granting arrow, or 65,535
unfoldable pub granting_of : (e : Entry) → ℕ
granting_of e = cond (is_granted e) (number_of e) no_arrow

module _ (pic : Picture) where
  -- what r makes of the first pair, by user, then file, at which the test holds
  unfoldable pub first_pair : (test : ℕ → ℕ → Bool) (r : ℕ → ℕ → Refusal) → Option Refusal
  first_pair test r = first (λ p. given (test (user_at pic p) (file_at pic p)) (r (user_at pic p) (file_at pic p))) (pairs pic)

  -- the byte and the number of a place of the matrix
  unfoldable pub byte_at : (mode place : ℕ) → ℕ
  byte_at mode place = byte_of (answer_at pic mode place)

  unfoldable pub number_at : (mode place : ℕ) → ℕ
  number_at mode place = number_of (answer_at pic mode place)
