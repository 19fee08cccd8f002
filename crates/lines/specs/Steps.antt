-- Text in a buffer, as the functions promise it. Assumes nothing.
use Rattle.std.specs.Prelude.{◌≡◌, List, ℕ, ◌+◌, ◌≤◌, length}
use Rattle.std.proofs.lemmas.List.Edits.{sets}
use Rattle.io.specs.Counts.{IsPrefixLen}
use Rattle.base.specs.Buffers.{written}
use Rattle.lines.specs.declared.pen.Pen.{Pen}

-- the bytes from a place on are the text, of at most so many; all others are as they were; next is the place after the text
pub record Put (old : List ℕ) (at : ℕ) (bytes : List ℕ) (most : ℕ) (new : List ℕ) (next : ℕ) : Type 0 where
  pub placed : new ≡ sets old at bytes
  pub ends : next ≡ at + length bytes
  pub short : length bytes ≤ most
  pub same : length new ≡ length old

-- the pen has put the text, of at most so many bytes, and stands behind it
abbrev pub Moved : (old : Pen) (bytes : List ℕ) (most : ℕ) (new : Pen) → Type 0
Moved old bytes most new = Put old.out.now old.at bytes most new.out.now new.at

-- so many bytes at the start of the buffer are the text
pub record Holds (text old new : List ℕ) (count : ℕ) : Type 0 where
  pub bytes-are : count ≡ length text
  pub written-are : new ≡ written text old
  pub counted : IsPrefixLen count new
