-- Sets of numbers below 256, each as four words of 64 bits, and tables of such sets, four words a set. Assumes nothing.
use Rattle.std.specs.Prelude.{◌≡◌, Bool, cond, ◌&&◌, ◌||◌, List, ℕ, zero, suc, ◌+◌, ◌*◌, ◌/◌, ◌%◌, ◌<◌, eqb, length, get_or}
use Rattle.base.specs.Steps.{any_below}
use Rattle.boxsets.specs.Words.{bit_at}
use Rattle.boxsets.specs.declared.Set.{Set}

-- word q of a set; 0 from 4 on
unfoldable pub word_at : (x : Set) (q : ℕ) → ℕ
word_at x zero = x.a
word_at x (suc zero) = x.b
word_at x (suc (suc zero)) = x.c
word_at x (suc (suc (suc zero))) = x.d
word_at x (suc (suc (suc (suc q)))) = 0

-- k is in the set; no k from 256 on is
unfoldable pub is_in : (x : Set) (k : ℕ) → Bool
is_in x k = bit_at (word_at x (k / 64)) (k % 64)

-- k is one of the numbers of word q of a set
unfoldable pub in_word : (q w k : ℕ) → Bool
in_word q w k = eqb (k / 64) q && bit_at w (k % 64)

-- the lowest number below n at which the test holds, or n
unfoldable pub least : (p : ℕ → Bool) (n : ℕ) → ℕ
least p zero = 0
least p (suc n) = cond (p 0) 0 (suc (least (λ k. p (suc k)) n))

-- the lowest number of the set, or 256
unfoldable pub low : (x : Set) → ℕ
low x = least (is_in x) 256

-- set r of a table
abbrev pub set_at : (t : List ℕ) (r : ℕ) → Set
set_at t r = record { a = get_or t (4 * r) 0; b = get_or t (4 * r + 1) 0; c = get_or t (4 * r + 2) 0; d = get_or t (4 * r + 3) 0 }

-- the words of a table with a set for each of 256 boxes
abbrev pub table_words : ℕ
table_words = 1024

-- set r of the table has k
unfoldable pub has : (t : List ℕ) (r k : ℕ) → Bool
has t r k = is_in (set_at t r) k

-- each number is below 256, as the number of a box is
abbrev pub Boxes : (numbers : List ℕ) → Type 0
Boxes numbers = (i : ℕ) → i < length numbers → get_or numbers i 0 < 256

-- k is one of the numbers
unfoldable pub among : (numbers : List ℕ) (k : ℕ) → Bool
among numbers k = any_below (λ i. eqb (get_or numbers i 0) k) (length numbers)

-- u is t with x as its set r
pub record Put (t : List ℕ) (r : ℕ) (x : Set) (u : List ℕ) : Type 0 where
  pub len : length u ≡ length t
  pub hit : set_at u r ≡ x
  pub miss : (a : ℕ) → (a ≡ r → ⊥) → set_at u a ≡ set_at t a

-- u is t with k added to its set r
pub record Added (t : List ℕ) (r k : ℕ) (u : List ℕ) : Type 0 where
  pub len : length u ≡ length t
  pub each : (a b : ℕ) → has u a b ≡ (has t a b || eqb a r && eqb b k)

-- u is t with x joined to each set from + a for which the test holds of a, of a below 256; all others are as they were
pub record Joins (from : ℕ) (p : ℕ → Bool) (x : Set) (t u : List ℕ) : Type 0 where
  pub len : length u ≡ length t
  pub each : (a b : ℕ) → has u (from + a) b ≡ (has t (from + a) b || p a && is_in x b)
  pub before : (r b : ℕ) → r < from → has u r b ≡ has t r b
