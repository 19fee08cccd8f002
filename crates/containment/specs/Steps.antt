-- What the functions ask of and promise each other: the closure, and how it stands while it is filled. Assumes nothing.
use Rattle.std.specs.Prelude.{◌≡◌, Bool, ◌&&◌, ◌||◌, List, ℕ, zero, suc, ◌+◌, ◌%◌, ◌<◌, eqb, length}
use Rattle.std.specs.Prelude.{Option}
use Rattle.base.specs.Search.{first, given}
use Rattle.tables.specs.declared.Refusal.TheVariants.{InItself}
use Rattle.tables.specs.Rows.{row_count, row_at}
use Rattle.tables.specs.declared.Refusal.{Refusal}
use Rattle.boxsets.specs.Sets.{has}
use Rattle.containment.specs.Contains.{around}

-- whole rows, of boxes below n
pub record RowsBelow (n : ℕ) (rows : List ℕ) : Type 0 where
  pub whole : length rows % 2 ≡ 0
  pub outer_below : (k : ℕ) → k < row_count rows → (row_at rows k).outer < n
  pub inner_below : (k : ℕ) → k < row_count rows → (row_at rows k).inner < n

-- the words of a table with two sets for each box: what it contains, and what contains it
abbrev pub closure_words : ℕ
closure_words = 2048

-- the table says f for n boxes: set a has b exactly if f a b, and set 256 + b has a exactly if f a b
pub record Both (n : ℕ) (f : ℕ → ℕ → Bool) (t : List ℕ) : Type 0 where
  pub len : length t ≡ closure_words
  pub down : (a b : ℕ) → a < n → has t a b ≡ f a b
  pub up : (a b : ℕ) → b < n → has t (256 + b) a ≡ f a b

-- the closure of the rows of n boxes: what each box is or contains, and what is it or contains it
abbrev pub Closure : (n : ℕ) (rows t : List ℕ) → Type 0
Closure n rows t = Both n (around rows) t

-- whatever t says of boxes below 256, u says with g added to it
pub record Turns (g : (ℕ → ℕ → Bool) → ℕ → ℕ → Bool) (t u : List ℕ) : Type 0 where
  pub len : length u ≡ length t
  pub says : (f : ℕ → ℕ → Bool) → Both 256 f t → Both 256 (g f) u

-- f a b, or a way through box k
unfoldable pub through : (f : ℕ → ℕ → Bool) (k a b : ℕ) → Bool
through f k a b = f a b || f a k && f k b

-- ways through boxes below k
unfoldable pub rounds : (f : ℕ → ℕ → Bool) (k a b : ℕ) → Bool
rounds f zero a b = f a b
rounds f (suc k) a b = through (rounds f k) k a b

-- f a b, or a and b are the same box below k
unfoldable pub selves : (f : ℕ → ℕ → Bool) (k a b : ℕ) → Bool
selves f zero a b = f a b
selves f (suc k) a b = selves f k a b || eqb a k && eqb b k

-- 10: the lowest of n boxes whose set has it
unfoldable pub own_fault : (n : ℕ) (t : List ℕ) → Option Refusal
own_fault n t = first (λ b. given (has t b b) (InItself b)) n
