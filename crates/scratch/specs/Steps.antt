-- What the functions ask of and promise each other: how the scratch stands while it is filled. Assumes nothing.
use Rattle.std.specs.Prelude.{◌≡◌, Bool, cond, List, ℕ, ◌+◌, ◌*◌, ◌<◌, ◌≤◌, T, length, get_or}
use Rattle.base.specs.Steps.{bit}
use Rattle.base.specs.Buffers.{written}
use Rattle.boxsets.specs.Sets.{has}
use Rattle.containment.specs.Contains.{direct}
use Rattle.scratch.specs.Scratch.{scratch_bytes}

-- the scratch of n boxes once it is filled: places beyond n × n are as they were
abbrev pub filled : (n : ℕ) (rows s : List ℕ) → List ℕ
filled n rows s = written (scratch_bytes n rows) s

-- no set of the first n has a number from n on
abbrev pub Square : (n : ℕ) (t : List ℕ) → Type 0
Square n t = (a b : ℕ) → a < n → T (has t a b) → b < n

-- byte a × n + b is g a b
abbrev pub Bytes : (n : ℕ) (g : ℕ → ℕ → ℕ) (s : List ℕ) → Type 0
Bytes n g s = (a b : ℕ) → a < n → b < n → get_or s (a * n + b) 0 ≡ g a b

-- byte a × n + b is 1 if f a b, else 0
abbrev pub Cells : (n : ℕ) (f : ℕ → ℕ → Bool) (s : List ℕ) → Type 0
Cells n f s = Bytes n (λ a b. bit (f a b)) s

-- v where a row has a as outer box and b as inner, else g a b
unfoldable pub over : (rows : List ℕ) (v : ℕ) (g : ℕ → ℕ → ℕ) (a b : ℕ) → ℕ
over rows v g a b = cond (direct rows a b) v (g a b)

-- t has as many bytes as s, and the same from m on
pub record SameFrom (m : ℕ) (s t : List ℕ) : Type 0 where
  pub len : length t ≡ length s
  pub rest : (p : ℕ) → m ≤ p → get_or t p 0 ≡ get_or s p 0

-- t is s with 1 in place at + b for each b for which the test holds
pub record Ones (p : ℕ → Bool) (at : ℕ) (s t : List ℕ) : Type 0 where
  pub len : length t ≡ length s
  pub from : (b : ℕ) → get_or t (at + b) 0 ≡ cond (p b) 1 (get_or s (at + b) 0)
  pub before : (i : ℕ) → i < at → get_or t i 0 ≡ get_or s i 0

-- there is a place for each of them
abbrev pub Room : (p : ℕ → Bool) (at : ℕ) (s : List ℕ) → Type 0
Room p at s = (b : ℕ) → T (p b) → at + b < length s
