-- What the scratch holds (document 01, "What may be asked", with the values of document 02, P2), and when it is filled (document 01, "Who
-- can cause a refusal"). Assumes nothing.
use Rattle.std.specs.Prelude.{cond, List, ℕ, ◌*◌, ◌/◌, ◌%◌, length}
use Rattle.std.specs.Prelude.{Option}
use Rattle.base.specs.Search.{or_else}
use Rattle.base.specs.Steps.{bit}
use Rattle.base.specs.Buffers.{build}
use Rattle.tables.specs.Rows.{Picture}
use Rattle.tables.specs.Refusals.{unless_refused}
use Rattle.tables.specs.Faults.{table_fault, mode_fault, room_fault}
use Rattle.tables.specs.declared.Refusal.{Refusal}
use Rattle.containment.specs.Contains.{Row, Chain, direct, contains, loop_fault}

-- the byte of boxes a and b: 2 where a row has a as outer box and b as inner, 1 where a contains b only through others, 0 otherwise
pub data Drawn (rows : List ℕ) (a b : ℕ) : ℕ → Type 0 where
  directly : Row rows a b → Drawn rows a b 2
  through-others : Chain rows a b → (Row rows a b → ⊥) → Drawn rows a b 1
  otherwise : (Chain rows a b → ⊥) → Drawn rows a b 0

-- the same as a number that computes (`drawn-iff`)
unfoldable pub drawn : (rows : List ℕ) (a b : ℕ) → ℕ
drawn rows a b = cond (direct rows a b) 2 (bit (contains rows a b))

-- n × n bytes for n boxes: byte a × n + b is that of boxes a and b
unfoldable pub scratch_bytes : (n : ℕ) (rows : List ℕ) → List ℕ
scratch_bytes n rows = build (λ p. drawn rows (p / n) (p % n)) (n * n)

-- 9 for the scratch of n boxes
unfoldable pub scratch_fault : (n : ℕ) (s : List ℕ) → Option Refusal
scratch_fault n s = room_fault 0 (length s) (n * n)

-- the scratch is filled whenever checks 1 to 9 pass; else it is as it was
abbrev pub scratch_after : (early : Option Refusal) (boxes rows s : List ℕ) → List ℕ
scratch_after early boxes rows s = unless_refused early (scratch_bytes (length boxes) rows) s

-- checks 1 to 7 of a picture, 9 for the scratch
unfoldable pub early_fault : (pic : Picture) (s : List ℕ) → Option Refusal
early_fault pic s = or_else (table_fault pic) (scratch_fault (length pic.boxes) s)

-- checks 1 to 9 of a call for a mode, up to the scratch
unfoldable pub mode_early : (pic : Picture) (s : List ℕ) (mode : ℕ) → Option Refusal
mode_early pic s mode = or_else (table_fault pic) (or_else (mode_fault mode) (scratch_fault (length pic.boxes) s))

-- checks 1 to 7 of a picture, 9 for the scratch, 10
unfoldable pub picture_fault : (pic : Picture) (s : List ℕ) → Option Refusal
picture_fault pic s = or_else (early_fault pic s) (loop_fault pic.boxes pic.rows)
