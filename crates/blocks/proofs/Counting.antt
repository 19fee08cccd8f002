-- How the row counts and the lengths of the tables grow block by block. Assumes nothing.
use mathlib.Core.Path.{◌≡◌, refl, sym}
use mathlib.Core.Bool.{Bool, true, false, cond, or-true, true≢false}
use mathlib.Core.List.{List, []}
use Rattle.std.specs.Prelude.{None as none, Some as some}
use Prim.Native.Nat.{ℕ, zero, suc, ◌+◌, ◌*◌, ◌/◌, ◌<◌, ◌≤◌}
use native.Mathlib.Omega.{arith}
use native.Mathlib.Numerals.{add-one}
use borrow.Author.Tests.{eqb-true, ltb-false}
use lib.Dec.{eqb, ltb}
use lib.ListN.{length, length-append}
use lib.Seq.{sets}
use Rattle.base.specs.Buffers.{written}
use Rattle.tables.specs.declared.Refusal.{Refusal}
use Rattle.base.proofs.Tests.{not-false}
use Rattle.base.proofs.SearchLaws.{first-none, first-nothing, first_more, first-here, given-none}
use Rattle.base.proofs.BufferLaws.{written-run}
use Rattle.tables.proofs.TableLaws.{both-none}
use Rattle.blocks.specs.Blocks.{head_of, by_kind, capacity, record_size, row_of, joined, said, wrong_head, block_fault}
use Rattle.blocks.specs.Files.{kind_before}
use Rattle.blocks.specs.Reads.{row_counts}
use Rattle.blocks.specs.Steps.{blocks_fault, count_of, table_in, counts_in, no_counts, counts_with}
use Rattle.blocks.specs.declared.Head.{Head}
use Rattle.blocks.specs.declared.Counts.{Counts}
use Rattle.blocks.proofs.Placing.{joined_length, joined-most}
use Rattle.blocks.proofs.RowLaws.{said-is}

-- one block more in a table
table_more : (f : ℕ → List ℕ) (old : List ℕ) (k n i : ℕ) → k < n → length (joined f n) ≤ length old → i ≡ length (joined f k)
    → sets (written (joined f k) old) i (f k) ≡ written (joined f (k + 1)) old
unfolding joined
table_more f old k n i h l e =
    let m : length (joined f (k + 1)) ≤ length (joined f n) = joined-most f (k + 1) n (omega arith) in
    let r : length (joined f k) + length (f k) ≤ length (joined f n) = simp (add-one, length-append) at m in
    rw (e, add-one) (written-run (joined f k) (f k) old (omega arith))

-- how long what a block says of each table is
boxes-said : (b : List ℕ) → length (said 1 b) ≡ count_of 1 (head_of b)
unfolding row_of record_size by_kind
boxes-said b = rw (said-is b 1) (let e = joined_length (row_of 1 b) 1 (count_of 1 (head_of b)) (λ k h. refl) in omega arith)

rows-said : (b : List ℕ) → length (said 2 b) ≡ 2 * count_of 2 (head_of b)
unfolding row_of record_size by_kind
rows-said b = rw (said-is b 2) (joined_length (row_of 2 b) 2 (count_of 2 (head_of b)) (λ k h. refl))

arrows-said : (b : List ℕ) → length (said 3 b) ≡ 4 * count_of 3 (head_of b)
unfolding row_of record_size by_kind
arrows-said b = rw (said-is b 3) (joined_length (row_of 3 b) 4 (count_of 3 (head_of b)) (λ k h. refl))

half-more : (l c : ℕ) → (l + 2 * c) / 2 ≡ l / 2 + c
half-more l c = omega arith

quarter-more : (l c : ℕ) → (l + 4 * c) / 4 ≡ l / 4 + c
quarter-more l c = omega arith

-- the row counts with a block, each by itself
pub counts_with_lem : (counts : Counts) (head : Head)
    → counts_with counts head
    ≡ record {
      boxes = counts.boxes + count_of 1 head;
      containments = counts.containments + count_of 2 head;
      arrows = counts.arrows + count_of 3 head;
    }
unfolding counts_with
counts_with_lem counts head = refl

module _ (blocks : ℕ → List ℕ) where
  -- no blocks say nothing
  pub counts-none : counts_in blocks 0 ≡ no_counts
  unfolding row_counts joined
  counts-none = refl

  pub tables-none : (table_in 1 blocks 0 ≡ []) × (table_in 2 blocks 0 ≡ []) × (table_in 3 blocks 0 ≡ [])
  unfolding joined
  tables-none = (refl, refl, refl)

  -- the row counts with one block more
  pub counts-more : (n : ℕ) → counts_in blocks (n + 1) ≡ counts_with (counts_in blocks n) (head_of (blocks n))
  unfolding row_counts counts_with joined
  counts-more n = simp (add-one, length-append, boxes-said, rows-said, arrows-said, half-more, quarter-more)

  -- the lengths of the tables by their row counts
  pub rows-length : (n : ℕ) → length (table_in 2 blocks n) ≡ 2 * (counts_in blocks n).containments
  unfolding row_counts joined
  rows-length zero = refl
  rows-length (suc n) =
      let e = rows-length n in
      simp (length-append, rows-said) (omega arith)

  pub arrows-length : (n : ℕ) → length (table_in 3 blocks n) ≡ 4 * (counts_in blocks n).arrows
  unfolding row_counts joined
  arrows-length zero = refl
  arrows-length (suc n) =
      let e = arrows-length n in
      simp (length-append, arrows-said) (omega arith)

  -- each table written so far, with what one block more says
  module _ (old : List ℕ) (k n : ℕ) (h : k < n) where
    pub boxes-more : (counts_in blocks n).boxes ≤ length old
        → sets (written (table_in 1 blocks k) old) (counts_in blocks k).boxes (said 1 (blocks k)) ≡ written (table_in 1 blocks (k + 1)) old
    unfolding row_counts
    boxes-more l = table_more (λ i. said 1 (blocks i)) old k n _ h l refl

    pub rows_more : 2 * (counts_in blocks n).containments ≤ length old
        → sets (written (table_in 2 blocks k) old) (2 * (counts_in blocks k).containments) (said 2 (blocks k))
        ≡ written (table_in 2 blocks (k + 1)) old
    rows_more l =
        table_more (λ i. said 2 (blocks i)) old k n _ h (rw (rows-length n) l) (sym (rows-length k))

    pub arrows-more : 4 * (counts_in blocks n).arrows ≤ length old
        → sets (written (table_in 3 blocks k) old) (4 * (counts_in blocks k).arrows) (said 3 (blocks k)) ≡ written (table_in 3 blocks (k + 1)) old
    arrows-more l =
        table_more (λ i. said 3 (blocks i)) old k n _ h (rw (arrows-length n) l) (sym (arrows-length k))

-- a good block's count
pub head-fits : (before place : ℕ) (head : Head) → wrong_head before place head ≡ false → head.count ≤ capacity head.kind
unfolding wrong_head
head-fits before place head e = go (ltb (capacity head.kind) head.count) refl
  where
    go : (t : Bool) → ltb (capacity head.kind) head.count ≡ t → head.count ≤ capacity head.kind
    go true q = absurd (true≢false (rw (q, or-true) at e))
    go false q = ltb-false (capacity head.kind) head.count q

pub count_fits : (kind : ℕ) (head : Head) → head.count ≤ capacity head.kind → count_of kind head ≤ capacity kind
unfolding count_of
count_fits kind head h = go (eqb head.kind kind) refl
  where
    go : (t : Bool) → eqb head.kind kind ≡ t → cond t head.count 0 ≤ capacity kind
    go true q = rw (eqb-true head.kind kind q) at h
    go false q = omega arith

pub good-count : (before place : ℕ) (b : List ℕ) → block_fault before place b ≡ none → (head_of b).count ≤ capacity (head_of b).kind
unfolding block_fault
good-count before place b e =
    head-fits before place (head_of b) (not-false _ (given-none _ _ (both-none _ _ (both-none _ _ e).1).0))

-- the blocks in turn
module _ (blocks : ℕ → List ℕ) where
  pub blocks_more : (k : ℕ) → blocks_fault blocks k ≡ none → block_fault (kind_before blocks k) k (blocks k) ≡ none → blocks_fault blocks (k + 1) ≡ none
  unfolding blocks_fault
  blocks_more k e f = first_more _ k e f

  pub blocks-found : (k n : ℕ) {r : Refusal} → k < n → blocks_fault blocks k ≡ none → block_fault (kind_before blocks k) k (blocks k) ≡ some r → blocks_fault blocks n ≡ some r
  unfolding blocks_fault
  blocks-found k n h e f = first-here _ n k _ e f h

  pub blocks-before : (k n : ℕ) → k ≤ n → blocks_fault blocks n ≡ none → blocks_fault blocks k ≡ none
  unfolding blocks_fault
  blocks-before k n h e = first-nothing _ k (λ j l. first-none _ n e j (omega arith))

  pub block-good : (k n : ℕ) → k < n → blocks_fault blocks n ≡ none → block_fault (kind_before blocks k) k (blocks k) ≡ none
  unfolding blocks_fault
  block-good k n h e = first-none _ n e k h

-- what a good block has of each table
pub record Holds (head : Head) : Type 0 where
  pub boxes-count : count_of 1 head ≤ 500
  pub rows-count : count_of 2 head ≤ 125
  pub arrows-count : count_of 3 head ≤ 83

pub good-holds : (blocks : ℕ → List ℕ) (k n : ℕ) → k < n → blocks_fault blocks n ≡ none → Holds (head_of (blocks k))
unfolding capacity by_kind
good-holds blocks k n h e =
    let g : (head_of (blocks k)).count ≤ capacity (head_of (blocks k)).kind = good-count (kind_before blocks k) k (blocks k) (block-good blocks k n h e) in
    record {
      boxes-count = count_fits 1 (head_of (blocks k)) g;
      rows-count = count_fits 2 (head_of (blocks k)) g;
      arrows-count = count_fits 3 (head_of (blocks k)) g;
    }

-- good blocks have few rows
pub record Few (n : ℕ) (counts : Counts) : Type 0 where
  pub boxes-few : counts.boxes ≤ 500 * n
  pub rows_few : counts.containments ≤ 500 * n
  pub arrows-few : counts.arrows ≤ 500 * n

few-more : (n : ℕ) (counts : Counts) (head : Head) → Few n counts → Holds head → Few (n + 1) (counts_with counts head)
unfolding counts_with
few-more n counts head f g = record { boxes-few = omega arith; rows_few = omega arith; arrows-few = omega arith }

few-none : (blocks : ℕ → List ℕ) → Few 0 (counts_in blocks 0)
unfolding row_counts joined
few-none blocks = record { boxes-few = omega arith; rows_few = omega arith; arrows-few = omega arith }

pub few-counts : (blocks : ℕ → List ℕ) (n : ℕ) → blocks_fault blocks n ≡ none → Few n (counts_in blocks n)
few-counts blocks zero e = few-none blocks
few-counts blocks (suc n) e =
    let f : Few n (counts_in blocks n) = few-counts blocks n (blocks-before blocks n (suc n) (omega arith) e) in
    rw (← add-one n, counts-more blocks n)
    (few-more n (counts_in blocks n) (head_of (blocks n)) f (good-holds blocks n (suc n) (omega arith) e))

-- fewer blocks have no more rows
pub record NoMore (few many : Counts) : Type 0 where
  pub boxes-most : few.boxes ≤ many.boxes
  pub rows-most : few.containments ≤ many.containments
  pub arrows-most : few.arrows ≤ many.arrows

pub counts-most : (blocks : ℕ → List ℕ) (k n : ℕ) → k ≤ n → NoMore (counts_in blocks k) (counts_in blocks n)
unfolding row_counts
counts-most blocks k n h =
    let b = joined-most (λ i. said 1 (blocks i)) k n h in
    let r = joined-most (λ i. said 2 (blocks i)) k n h in
    let a = joined-most (λ i. said 3 (blocks i)) k n h in
    record { boxes-most = b; rows-most = omega arith; arrows-most = omega arith }
