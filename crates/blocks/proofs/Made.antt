-- What a file made of blocks says: all that a packer has to show of its blocks. And a file is made of its blocks, so
-- that they determine it. Assumes nothing.
use mathlib.Core.Path.{◌≡◌, refl, ◌∙◌, sym, ap}
use mathlib.Core.List.{List}
use mathlib.Core.Logic.{⊎_elim}
use Rattle.std.specs.Prelude.{None as none}
use Prim.Native.Nat.{ℕ, zero, suc, ◌+◌, ◌*◌, ◌/◌, ◌%◌, ◌<◌, ◌≤◌}
use native.Mathlib.Omega.{arith}
use native.Mathlib.Nat.{eq-or-lt_of_le, le_of_suc-le-suc}
use lib.ListN.{length, take, drop, length-drop}
use lib.Seq.{take-add, take-length, take_all, drop_at, drop-append-le, take-append-le}
use Rattle.base.proofs.SearchLaws.{first-same}
use Rattle.base.proofs.Options.{past}
use Rattle.blocks.specs.Blocks.{head_of, joined, said}
use Rattle.blocks.specs.Files.{block_count, block_at, kind_before, length_fault, file_fault, table_of}
use Rattle.blocks.specs.Reads.{row_counts, read_fault}
use Rattle.blocks.specs.Steps.{blocks_fault, table_in, counts_in, counts_of, tables_fault}
use Rattle.tables.proofs.TableLaws.{both-none}
use Rattle.blocks.proofs.Order.{length_whole, length-good}
use Rattle.blocks.proofs.Placing.{joined_length}

pub good-whole : (file : List ℕ) → file_fault file ≡ none → length file % 512 ≡ 0
unfolding file_fault blocks_fault
good-whole file e = (length_whole (length file) (both-none _ _ e).0).0

-- lists that agree at each number below n
pub joined_same : (f g : ℕ → List ℕ) (n : ℕ) → ((k : ℕ) → k < n → f k ≡ g k) → joined f n ≡ joined g n
unfolding joined
joined_same f g zero e = refl
joined_same f g (suc n) e = rw (joined_same f g n (λ k h. e k (omega arith)), e n (omega arith))

-- blocks that are the same have the same faults and say the same
module _ (a b : ℕ → List ℕ) (n : ℕ) (same : (k : ℕ) → k < n → a k ≡ b k) where
  same-before : (k : ℕ) → k < n → kind_before a k ≡ kind_before b k
  unfolding kind_before head_of
  same-before zero h = refl
  same-before (suc k) h = rw (same k (omega arith))

  pub same-faults : blocks_fault a n ≡ blocks_fault b n
  unfolding blocks_fault
  same-faults = first-same _ _ n (λ k h. rw (same-before k h, same k h))

  pub same_tables : (kind : ℕ) → table_in kind a n ≡ table_in kind b n
  same_tables kind = joined_same _ _ n (λ k h. ap (said kind) (same k h))

  pub same-counts : counts_in a n ≡ counts_in b n
  unfolding row_counts
  same-counts = rw (same_tables 1, same_tables 2, same_tables 3)

-- a file of whole blocks is made of them
blocks-taken : (file : List ℕ) (n : ℕ) → joined (block_at file) n ≡ take (512 * n) file
unfolding joined block_at
blocks-taken file zero = refl
blocks-taken file (suc n) =
    let e : 512 * suc n ≡ 512 * n + 512 = omega arith in
    rw (e, blocks-taken file n, take-add)

pub made-of-blocks : (file : List ℕ) → length file % 512 ≡ 0 → joined (block_at file) (block_count file) ≡ file
made-of-blocks file h =
    let e : 512 * (length file / 512) ≡ length file = omega arith in
    rw (blocks-taken, e, take-length)

-- so good files with the same blocks are the same file, and say the same
pub same-file : (a b : List ℕ) → file_fault a ≡ none → file_fault b ≡ none → block_count a ≡ block_count b
    → ((k : ℕ) → k < block_count a → block_at a k ≡ block_at b k) → a ≡ b
same-file a b p q n same =
    sym (made-of-blocks a (good-whole a p)) ∙ joined_same (block_at a) (block_at b) (block_count a) same
    ∙ rw n (made-of-blocks b (good-whole b q))

-- a file made of n blocks of 512 bytes
module _ (blocks : ℕ → List ℕ) (n : ℕ) (whole : (k : ℕ) → k < n → length (blocks k) ≡ 512) where
  pub made-length : length (joined blocks n) ≡ 512 * n
  made-length = joined_length blocks 512 n whole

  pub made-count : block_count (joined blocks n) ≡ n
  made-count = rw made-length (omega arith)

pub made-block : (blocks : ℕ → List ℕ) (n : ℕ) → ((k : ℕ) → k < n → length (blocks k) ≡ 512) → (k : ℕ) → k < n → block_at (joined blocks n) k ≡ blocks k
unfolding joined block_at
made-block blocks zero whole k h = absurd (omega arith)
made-block blocks (suc n) whole k h =
    let front : (i : ℕ) → i < n → length (blocks i) ≡ 512 = λ i l. whole i (omega arith) in
    let l : length (joined blocks n) ≡ 512 * n = made-length blocks n front in
    ⊎_elim
    (λ (e : k ≡ n). rw (e, drop_at (joined blocks n) (blocks n) (512 * n) l) (take_all 512 (blocks n) (let w = whole n (omega arith) in omega arith)))
    (λ (m : k < n).
    let d : 512 * k ≤ length (joined blocks n) = omega arith in
    let t : 512 ≤ length (drop (512 * k) (joined blocks n)) = rw length-drop (omega arith) in
    rw (drop-append-le, take-append-le) (made-block blocks n front k m))
    (eq-or-lt_of_le (le_of_suc-le-suc h))

module _ (blocks : ℕ → List ℕ) (n : ℕ) (whole : (k : ℕ) → k < n → length (blocks k) ≡ 512) where
  same : (k : ℕ) → k < n → block_at (joined blocks n) k ≡ blocks k
  same = made-block blocks n whole

  pub made_table : (kind : ℕ) → table_of kind (joined blocks n) ≡ table_in kind blocks n
  made_table kind = rw (made-count blocks n whole) (same_tables _ blocks n same kind)

  pub made-counts : counts_of (joined blocks n) ≡ counts_in blocks n
  made-counts = rw (made-count blocks n whole) (same-counts _ blocks n same)

  pub made-good : 0 < n → n ≤ 64 → blocks_fault blocks n ≡ none → file_fault (joined blocks n) ≡ none
  unfolding file_fault blocks_fault
  made-good most few good =
      let l : length_fault (length (joined blocks n)) ≡ none = rw (made-length blocks n whole) (length-good (512 * n) (omega arith) (omega arith) (omega arith)) in
      let f : blocks_fault (block_at (joined blocks n)) (block_count (joined blocks n)) ≡ none = rw (made-count blocks n whole) (same-faults _ blocks n same ∙ good) in
      past _ _ l ∙ f

  -- reading it is refused only by 2 and 9
  pub made-read : 0 < n → n ≤ 64 → blocks_fault blocks n ≡ none → (boxes rows arrows : List ℕ)
      → read_fault (joined blocks n) boxes rows arrows ≡ tables_fault (counts_in blocks n) (length boxes) (length rows) (length arrows)
  unfolding read_fault tables_fault
  made-read most few good boxes rows arrows = rw made-counts (past _ _ (made-good most few good))
