-- What a block says by its bytes, where it has no fault, and runs of blocks that have none: what a packer shows of each block that it
-- makes. Assumes nothing.
use mathlib.Core.Path.{◌≡◌, refl, ap, ◌∙◌}
use mathlib.Core.Bool.{true, false, not}
use mathlib.Core.List.{List, [], ◌∷◌, ◌++◌}
use Rattle.std.specs.Prelude.{None as none}
use Prim.Native.Nat.{ℕ, zero, suc, ◌+◌, ◌*◌, ◌%◌, ◌^◌, ◌<◌, ◌≤◌}
use native.Mathlib.Omega.{arith}
use native.Mathlib.Nat.{add-zero}
use borrow.Author.Tests.{le-ltb, eq-eqb, ne_eqb}
use lib.Bits.{bit_xor}
use lib.ListN.{length, get_or, take, drop, replicate}
use Rattle.base.specs.Buffers.{zeros}
use Rattle.tables.specs.Rows.{row_count, arrow_count}
use Rattle.tables.specs.Faults.{count_fault, room_fault}
use Rattle.base.proofs.BufferLaws.{zeros-is}
use Rattle.base.proofs.SearchLaws.{given-false, first-zero}
use Rattle.base.proofs.Options.{past}
use Rattle.blocks.specs.Fnv.{fnv_fold, fnv1a}
use Rattle.blocks.specs.Blocks.{number16, head_of, by_kind, capacity, record_size, row_of, joined, said, wrong_check, wrong_head}
use Rattle.blocks.specs.Blocks.{wrong_filler, block_fault}
use Rattle.blocks.specs.Files.{kind_before}
use Rattle.blocks.specs.Reads.{row_counts}
use Rattle.blocks.specs.Steps.{blocks_fault, number32, records_end, count_of, all_zero, table_in, counts_in, tables_fault}
use Rattle.blocks.specs.declared.Head.{Head}
use Rattle.blocks.specs.declared.Counts.{Counts}
use Rattle.blocks.proofs.Counting.{blocks_more}
use Rattle.blocks.proofs.Filler.{filler-is}
use Rattle.blocks.proofs.JoinedLaws.{joined-none}
use Rattle.blocks.proofs.RowLaws.{box-row-is, containment-row-is, arrow-row-is, said-is}
use Rattle.blocks.proofs.Made.{joined_same}

-- ---- by kind

pub of-boxes : (a b c : ℕ) → by_kind 1 a b c ≡ a
unfolding by_kind
of-boxes a b c = refl

pub of-containments : (a b c : ℕ) → by_kind 2 a b c ≡ b
unfolding by_kind
of-containments a b c = refl

pub of-arrows : (a b c : ℕ) → by_kind 3 a b c ≡ c
unfolding by_kind
of-arrows a b c = refl

pub capacities : (capacity 1 ≡ 500) × (capacity 2 ≡ 125) × (capacity 3 ≡ 83)
unfolding by_kind capacity
capacities = (refl, refl, refl)

pub record-sizes : (record_size 1 ≡ 1) × (record_size 2 ≡ 4) × (record_size 3 ≡ 6)
unfolding by_kind record_size
record-sizes = (refl, refl, refl)

-- ---- bytes

pub check-is : (bytes : List ℕ) → fnv1a bytes ≡ fnv_fold (fnv1a []) bytes
unfolding fnv_fold fnv1a
check-is bytes = refl

-- of more bytes
fold_more : (state : ℕ) (a b : List ℕ) → fnv_fold (fnv_fold state a) b ≡ fnv_fold state (a ++ b)
unfolding fnv_fold
fold_more state [] b = refl
fold_more state (byte ∷ a) b = fold_more (bit_xor state byte * 16777619 % 2 ^ 32) a b

pub check-more : (a b : List ℕ) → fnv_fold (fnv1a a) b ≡ fnv1a (a ++ b)
unfolding fnv1a
check-more a b = fold_more 2166136261 a b

-- it has 32 bits
fold_small : (state : ℕ) (bytes : List ℕ) → state < 4294967296 → fnv_fold state bytes < 4294967296
unfolding fnv_fold
fold_small state [] h = h
fold_small state (byte ∷ bytes) h = fold_small (bit_xor state byte * 16777619 % 2 ^ 32) bytes (omega arith)

pub check-small : (bytes : List ℕ) → fnv1a bytes < 4294967296
unfolding fnv1a
check-small bytes = fold_small 2166136261 bytes (omega arith)

pub number16-is : (block : List ℕ) (at : ℕ) → number16 block at ≡ get_or block at 0 + 256 * get_or block (at + 1) 0
unfolding number16
number16-is block at = refl

pub number32-is : (block : List ℕ) (at : ℕ) → number32 block at ≡ number16 block at + 65536 * number16 block (at + 2)
unfolding number32
number32-is block at = refl

-- the head of a block that is made: bytes 1, 6 and 7 are zero
abbrev pub head_made : (kind number count : ℕ) → Head
head_made kind number count = record { kind = kind; byte1 = 0; number = number; count = count; byte6 = 0; byte7 = 0 }

pub head-made : (kind a b c d : ℕ) (rest : List ℕ)
    → head_of (kind ∷ 0 ∷ a ∷ b ∷ c ∷ d ∷ 0 ∷ 0 ∷ rest) ≡ head_made kind (a + 256 * b) (c + 256 * d)
unfolding head_of number16
head-made kind a b c d rest = refl

-- ---- rows

-- record j, where each has w bytes, has the bytes of a list
abbrev pub RecordIs : (block : List ℕ) (w j : ℕ) (bytes : List ℕ) → Type 0
RecordIs block w j bytes = (i : ℕ) → i < w → get_or block (8 + (w * j + i)) 0 ≡ get_or bytes i 0

module _ (block : List ℕ) (j : ℕ) (bytes : List ℕ) where
  pub box-row : RecordIs block 1 j bytes → row_of 1 block j ≡ get_or bytes 0 0 ∷ []
  box-row e =
      let a : 8 + j ≡ 8 + (1 * j + 0) = omega arith in
      rw (box-row-is block j, a, e 0 (omega arith))

  pub containment-row : RecordIs block 4 j bytes → row_of 2 block j ≡ number16 bytes 0 ∷ number16 bytes 2 ∷ []
  unfolding number16
  containment-row e =
      let a : 8 + 4 * j ≡ 8 + (4 * j + 0) = omega arith in
      let b : 8 + (4 * j + 0) + 1 ≡ 8 + (4 * j + 1) = omega arith in
      let c : 10 + 4 * j ≡ 8 + (4 * j + 2) = omega arith in
      let d : 8 + (4 * j + 2) + 1 ≡ 8 + (4 * j + 3) = omega arith in
      rw (containment-row-is block j, a, b, c, d, e 0 (omega arith), e 1 (omega arith), e 2 (omega arith), e 3 (omega arith))

  pub arrow-row : RecordIs block 6 j bytes → row_of 3 block j ≡ number16 bytes 0 ∷ number16 bytes 2 ∷ get_or bytes 4 0 ∷ get_or bytes 5 0 ∷ []
  unfolding number16
  arrow-row e =
      let a : 8 + 6 * j ≡ 8 + (6 * j + 0) = omega arith in
      let b : 8 + (6 * j + 0) + 1 ≡ 8 + (6 * j + 1) = omega arith in
      let c : 10 + 6 * j ≡ 8 + (6 * j + 2) = omega arith in
      let d : 8 + (6 * j + 2) + 1 ≡ 8 + (6 * j + 3) = omega arith in
      let f : 12 + 6 * j ≡ 8 + (6 * j + 4) = omega arith in
      let g : 13 + 6 * j ≡ 8 + (6 * j + 5) = omega arith in
      rw (arrow-row-is block j, a, b, c, d, f, g, e 0 (omega arith), e 1 (omega arith), e 2 (omega arith), e 3 (omega arith), e 4 (omega arith), e 5 (omega arith))

-- ---- what a block with a known head says of each table

module _ (block : List ℕ) (kind number count : ℕ) (head : head_of block ≡ head_made kind number count) where
  count-other : (other : ℕ) → (kind ≡ other → ⊥) → count_of other (head_of block) ≡ 0
  unfolding count_of
  count-other other n = rw (head, ne_eqb kind other n)

  count-own : count_of kind (head_of block) ≡ count
  unfolding count_of
  count-own = rw (head, eq-eqb kind kind refl)

  -- nothing, where it is of another kind
  pub no_rows : (other : ℕ) → (kind ≡ other → ⊥) → said other block ≡ []
  no_rows other n = said-is block other ∙ ap (joined (row_of other block)) (count-other other n) ∙ joined-none (row_of other block)

  -- else its rows
  pub rows_are : (f : ℕ → List ℕ) → ((j : ℕ) → j < count → row_of kind block j ≡ f j) → said kind block ≡ joined f count
  rows_are f e = said-is block kind ∙ ap (joined (row_of kind block)) count-own ∙ joined_same (row_of kind block) f count e

-- ---- no fault

zeros-zero : (n : ℕ) → all_zero (replicate n 0) ≡ true
unfolding all_zero
zeros-zero zero = refl
zeros-zero (suc n) = zeros-zero n

head-right : (before place kind count : ℕ) → 1 ≤ kind → kind ≤ 3 → before ≤ kind → count ≤ capacity kind
    → wrong_head before place (head_made kind place count) ≡ false
unfolding wrong_head
head-right before place kind count low high after fits =
    rw (le-ltb kind 1 low, le-ltb 3 kind high, le-ltb kind before after, eq-eqb place place refl, le-ltb (capacity kind) count fits)

filler-right : (place kind count filler : ℕ) (block : List ℕ) → drop (8 + record_size kind * count) (take 508 block) ≡ zeros filler
    → wrong_filler (head_made kind place count) block ≡ false
unfolding records_end
filler-right place kind count filler block e = rw (filler-is, e, ← zeros-is, zeros-zero)

-- a block of a kind with a right head, a right check, and zero filler, after blocks of no higher kind
pub block-passed : (before place kind count filler : ℕ) (block : List ℕ) → head_of block ≡ head_made kind place count
    → 1 ≤ kind → kind ≤ 3 → before ≤ kind → count ≤ capacity kind
    → fnv1a (take 508 block) ≡ number32 block 508 → drop (8 + record_size kind * count) (take 508 block) ≡ zeros filler
    → block_fault before place block ≡ none
unfolding block_fault wrong_check number32
block-passed before place kind count filler block head low high after fits check fill =
    past _ _ (given-false _ _ (ap not (eq-eqb (fnv1a (take 508 block)) (number32 block 508) check)))
    ∙ rw head (past _ _ (given-false _ _ (head-right before place kind count low high after fits))
    ∙ given-false _ _ (filler-right place kind count filler block fill))

-- ---- blocks one after the other

-- no blocks
pub none_before : (blocks : ℕ → List ℕ) → (blocks_fault blocks 0 ≡ none) × (kind_before blocks 0 ≡ 0)
unfolding blocks_fault kind_before
none_before blocks = (first-zero _, refl)

pub kind-after : (blocks : ℕ → List ℕ) (k : ℕ) → kind_before blocks (suc k) ≡ (head_of (blocks k)).kind
unfolding kind_before
kind-after blocks k = refl

-- n blocks of a kind behind m blocks of no higher kind
pub run_more : (blocks : ℕ → List ℕ) (kind m n : ℕ) → blocks_fault blocks m ≡ none → kind_before blocks m ≤ kind
    → ((j : ℕ) → j < n → (head_of (blocks (m + j))).kind ≡ kind)
    → ((j : ℕ) → j < n → (before : ℕ) → before ≤ kind → block_fault before (m + j) (blocks (m + j)) ≡ none)
    → (blocks_fault blocks (m + n) ≡ none) × (kind_before blocks (m + n) ≤ kind)
run_more blocks kind m zero good low same passed = rw add-zero (good, low)
run_more blocks kind m (suc n) good low same passed =
    let front = run_more blocks kind m n good low (λ j h. same j (omega arith)) (λ j h. passed j (omega arith)) in
    let e : m + suc n ≡ m + n + 1 = omega arith in
    let s : m + suc n ≡ suc (m + n) = omega arith in (
      rw e (blocks_more blocks (m + n) front.0 (passed n (omega arith) (kind_before blocks (m + n)) front.1)),
      rw (s, kind-after, same n (omega arith)) (omega arith),
    )

-- the row counts of what they say
pub counts-in : (blocks : ℕ → List ℕ) (n : ℕ) (boxes rows arrows : List ℕ)
    → table_in 1 blocks n ≡ boxes → table_in 2 blocks n ≡ rows → table_in 3 blocks n ≡ arrows
    → counts_in blocks n ≡ record { boxes = length boxes; containments = row_count rows; arrows = arrow_count arrows }
unfolding row_counts
counts-in blocks n boxes rows arrows b r a = rw (b, r, a)

-- counts that 2 and 9 pass
pub tables-passed : (counts : Counts) (boxes rows arrows : ℕ) → count_fault counts.boxes counts.containments counts.arrows ≡ none
    → room_fault 5 boxes counts.boxes ≡ none → room_fault 6 rows (2 * counts.containments) ≡ none → room_fault 7 arrows (4 * counts.arrows) ≡ none
    → tables_fault counts boxes rows arrows ≡ none
unfolding tables_fault
tables-passed counts boxes rows arrows few b r a = past _ _ few ∙ past _ _ b ∙ past _ _ r ∙ a
