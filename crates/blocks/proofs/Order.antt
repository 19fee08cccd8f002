-- The order of the refusals of reading, and what holds where none is found. Assumes nothing.
use mathlib.Core.Path.{◌≡◌, refl, ◌∙◌}
use mathlib.Core.Bool.{not, ◌||◌}
use mathlib.Core.List.{List}
use Rattle.std.specs.Prelude.{Option, None as none, Some as some}
use Prim.Native.Nat.{ℕ, ◌*◌, ◌%◌, ◌<◌, ◌≤◌}
use native.Mathlib.Omega.{arith}
use borrow.Author.Tests.{le-ltb, eq-eqb, ne_eqb}
use lib.Dec.{eqb, ltb, eqb→eq, nltb→le, not_T}
use lib.ListN.{length}
use Rattle.base.specs.Search.{or_else, given}
use Rattle.base.specs.Buffers.{written}
use Rattle.tables.specs.Faults.{count_fault, room_fault}
use Rattle.tables.specs.declared.Refusal.TheVariants.{BadLength}
use Rattle.tables.specs.declared.Refusal.{Refusal}
use Rattle.base.proofs.Tests.{T-or₁, T-or₂}
use Rattle.base.proofs.SearchLaws.{given-none, given-false}
use Rattle.tables.proofs.TableLaws.{both-none, not-not, room-passed}
use Rattle.base.proofs.Options.{past, stop}
use Rattle.blocks.specs.Files.{block_count, block_at, length_fault, file_fault, table_of}
use Rattle.blocks.specs.Reads.{read_fault, answer_of}
use Rattle.blocks.specs.Steps.{blocks_fault, counts_of, tables_fault, ReadDone}
use Rattle.blocks.specs.declared.Counts.{Counts}
use Rattle.std.proofs.Common.{Ok, Err}

-- what an answer says of the fault
pub answer-tables : (o : Option Refusal) (c d : Counts) → answer_of o c ≡ Ok d → (o ≡ none) × (c ≡ d)
answer-tables none c d e = let i : c ≡ d = cc in (refl, i)
answer-tables (some r) c d e = let z : ◌≡◌ {A = ℕ} 0 1 = cc in absurd (omega arith)

pub answer-refused : (o : Option Refusal) (c : Counts) (r : Refusal) → answer_of o c ≡ Err r → o ≡ some r
answer-refused none c r e = let z : ◌≡◌ {A = ℕ} 0 1 = cc in absurd (omega arith)
answer-refused (some s) c r e = let i : s ≡ r = cc in rw i

-- 14 by its tests
pub length-tests : (len : ℕ) → length_fault len ≡ given (eqb len 0 || not (eqb (len % 512) 0) || ltb 32768 len) (BadLength len)
unfolding length_fault
length-tests len = refl

-- a length that 14 passes
pub length_whole : (len : ℕ) → length_fault len ≡ none → (len % 512 ≡ 0) × (len ≤ 32768)
unfolding length_fault
length_whole len e =
    let empty = eqb len 0 in
    let Ragged = not (eqb (len % 512) 0) in
    let long = ltb 32768 len in
    let good = given-none (empty || Ragged || long) _ e in (
      eqb→eq (len % 512) 0 (not-not (eqb (len % 512) 0) (λ t. good (T-or₁ (empty || Ragged) long (T-or₂ empty Ragged t)))),
      nltb→le 32768 len (not_T long (λ t. good (T-or₂ (empty || Ragged) long t))),
    )

pub length-good : (len : ℕ) → 0 < len → len % 512 ≡ 0 → len ≤ 32768 → length_fault len ≡ none
unfolding length_fault
length-good len p e h = given-false _ _ (rw (ne_eqb len 0 (λ z. omega arith), eq-eqb (len % 512) 0 e, le-ltb 32768 len h))

module _ (file boxes rows arrows : List ℕ) where
  -- the checks in turn
  pub by_length : {r : Refusal} → length_fault (length file) ≡ some r → read_fault file boxes rows arrows ≡ some r
  unfolding read_fault file_fault blocks_fault
  by_length e = stop _ _ (stop _ _ e)

  module _ (whole : length_fault (length file) ≡ none) where
    pub by_blocks : {r : Refusal} → blocks_fault (block_at file) (block_count file) ≡ some r → read_fault file boxes rows arrows ≡ some r
    unfolding read_fault file_fault blocks_fault
    by_blocks e = stop _ _ (past _ _ whole ∙ e)

    module _ (good : blocks_fault (block_at file) (block_count file) ≡ none) where
      pub by-tables : read_fault file boxes rows arrows ≡ tables_fault (counts_of file) (length boxes) (length rows) (length arrows)
      unfolding read_fault tables_fault file_fault blocks_fault
      by-tables = past _ _ (past _ _ whole ∙ good)

-- 2 first, then 9 for each table
module _ (counts : Counts) (boxes rows arrows : ℕ) where
  pub by-counts : {r : Refusal} → count_fault counts.boxes counts.containments counts.arrows ≡ some r
      → tables_fault counts boxes rows arrows ≡ some r
  unfolding tables_fault
  by-counts e = stop _ _ e

  pub by-rooms : count_fault counts.boxes counts.containments counts.arrows ≡ none
      → tables_fault counts boxes rows arrows
      ≡ or_else (room_fault 5 boxes counts.boxes)
      (or_else (room_fault 6 rows (2 * counts.containments)) (room_fault 7 arrows (4 * counts.arrows)))
  unfolding tables_fault
  by-rooms e = past _ _ e

  -- where there is no fault, each table has room
  pub tables-fit : tables_fault counts boxes rows arrows ≡ none
      → (counts.boxes ≤ boxes) × (2 * counts.containments ≤ rows) × (4 * counts.arrows ≤ arrows)
  unfolding tables_fault
  tables-fit e =
      let room = both-none _ _ (both-none _ _ e).1 in
      let rest = both-none _ _ room.1 in
      (room-passed 5 boxes _ room.0, room-passed 6 rows _ rest.0, room-passed 7 arrows _ rest.1)

-- it goes by the lengths of the tables
pub read-lengths : (file boxes rows arrows boxes' rows' arrows' : List ℕ) → length boxes ≡ length boxes' → length rows ≡ length rows'
    → length arrows ≡ length arrows' → read_fault file boxes rows arrows ≡ read_fault file boxes' rows' arrows'
unfolding read_fault
read-lengths file boxes rows arrows boxes' rows' arrows' b r a = rw (b, r, a)

-- a refusal leaves the tables as they were
pub read-refused : (file boxes rows arrows : List ℕ) {r : Refusal} → read_fault file boxes rows arrows ≡ some r
    → ReadDone file boxes rows arrows boxes rows arrows (Err r)
read-refused file boxes rows arrows e = (rw e, (rw e, (rw e, rw e)))

-- else the row counts are answered
pub read_done : (file boxes rows arrows boxes_end rows_end arrows_end : List ℕ) (counts : Counts)
    → read_fault file boxes rows arrows ≡ none → counts_of file ≡ counts
    → boxes_end ≡ written (table_of 1 file) boxes → rows_end ≡ written (table_of 2 file) rows → arrows_end ≡ written (table_of 3 file) arrows
    → ReadDone file boxes rows arrows boxes_end rows_end arrows_end (Ok counts)
read_done file boxes rows arrows boxes_end rows_end arrows_end counts e c p q r = (rw (e, c), (rw e p, (rw e q, rw e r)))
