-- Which box contains which (document 01, "Meaning"). Assumes nothing.
use Rattle.std.specs.Prelude.{Bool, false, ◌&&◌, ◌||◌, List, [], ◌∷◌, ℕ, eqb, length}
use Rattle.std.specs.Prelude.{Option}
use Rattle.base.specs.Search.{first, given}
use Rattle.tables.specs.declared.Refusal.TheVariants.{InItself}
use Rattle.tables.specs.declared.Refusal.{Refusal}

-- a row of the table has outer box a and inner box b
pub data Row : List ℕ → ℕ → ℕ → Type 0 where
  here : {a b : ℕ} {rows : List ℕ} → Row (a ∷ b ∷ rows) a b
  later : {x y a b : ℕ} {rows : List ℕ} → Row rows a b → Row (x ∷ y ∷ rows) a b

-- that there is such a row, as a test that computes (`direct-iff`)
unfoldable pub direct : (rows : List ℕ) (a b : ℕ) → Bool
direct [] a b = false
direct (x ∷ []) a b = false
direct (x ∷ y ∷ rows) a b = eqb x a && eqb y b || direct rows a b

-- a chain of one or more containment rows leads from a to b
pub data Chain (rows : List ℕ) : ℕ → ℕ → Type 0 where
  one : {a b : ℕ} → Row rows a b → Chain rows a b
  more : {a b c : ℕ} → Row rows a b → Chain rows b c → Chain rows a c

-- A contains B: that there is such a chain, as a test that computes (`contains-iff`). With one row (x, y) more, a contains b
-- if it did before, or by way of that row: a is x or contains it, and y is b or contains it.
unfoldable pub contains : (rows : List ℕ) (a b : ℕ) → Bool
contains [] a b = false
contains (x ∷ []) a b = false
contains (x ∷ y ∷ rows) a b = contains rows a b || (eqb a x || contains rows a x) && (eqb y b || contains rows y b)

-- a is b or contains it
unfoldable pub around : (rows : List ℕ) (a b : ℕ) → Bool
around rows a b = eqb a b || contains rows a b

-- 10: a box contains itself
unfoldable pub loop_fault : (boxes rows : List ℕ) → Option Refusal
loop_fault boxes rows = first (λ b. given (contains rows b b) (InItself b)) (length boxes)
