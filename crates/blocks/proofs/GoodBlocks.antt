-- What a block without a fault has: its head's bytes, its check, its filler, and the bytes that its rows are said by. The converse of
-- MadeBlocks. Assumes nothing.
use mathlib.Core.Path.{◌≡◌, refl, sym, ◌∙◌}
use mathlib.Core.Bool.{Bool, true, false, not, ◌&&◌, ◌||◌, true≢false}
use mathlib.Core.List.{List, [], ◌∷◌}
use Rattle.std.specs.Prelude.{None as none}
use Prim.Native.Nat.{ℕ, suc, ◌+◌, ◌*◌, ◌-◌, ◌/◌, ◌%◌, ◌<◌, ◌≤◌}
use native.Mathlib.Omega.{arith}
use borrow.Author.Tests.{ltb-false, eqb-true, eqb-false, not-false}
use lib.Dec.{eqb, ltb}
use lib.ListN.{length, get_or, take, drop, replicate, length-take, length-drop}
use Rattle.base.specs.Buffers.{zeros}
use Rattle.base.proofs.Tests.{not-false as not-T-false}
use Rattle.base.proofs.SearchLaws.{given-none}
use Rattle.tables.proofs.TableLaws.{both-none}
use Rattle.base.proofs.BufferLaws.{zeros-is}
use Rattle.blocks.specs.Fnv.{fnv1a}
use Rattle.blocks.specs.Blocks.{number16, head_of, capacity, record_size, wrong_check, wrong_head, wrong_filler, block_fault}
use Rattle.blocks.specs.Files.{block_count, block_at, kind_before, length_fault, file_fault}
use Rattle.blocks.specs.Steps.{number32, blocks_fault, records_end, all_zero}
use Rattle.blocks.specs.declared.Head.{Head}
use Rattle.blocks.proofs.Counting.{block-good}
use Rattle.blocks.proofs.Filler.{filler-is}
use Rattle.blocks.proofs.MadeBlocks.{head_made, kind-after}
use Rattle.blocks.proofs.Order.{length_whole}
use Rattle.blocks.proofs.Parts.{byte_at}

-- ---- a block's numbers by its bytes

pub head_bytes_lem : (block : List ℕ) → head_of block
    ≡ record {
      kind = get_or block 0 0;
      byte1 = get_or block 1 0;
      number = number16 block 2;
      count = number16 block 4;
      byte6 = get_or block 6 0;
      byte7 = get_or block 7 0;
    }
unfolding head_of
head_bytes_lem block = refl

-- ---- a head that 16 passes

or-none : (a b : Bool) → (a || b) ≡ false → (a ≡ false) × (b ≡ false)
or-none true b e = absurd (true≢false e)
or-none false b e = (refl, e)

and_both : (a b : Bool) → (a && b) ≡ true → (a ≡ true) × (b ≡ true)
and_both true b e = (refl, e)
and_both false b e = absurd (true≢false (sym e))

zero-byte : (x : ℕ) → not (eqb x 0) ≡ false → x ≡ 0
zero-byte x e = eqb-true x 0 (not-false (eqb x 0) e)

pub record RightHead (before place : ℕ) (head : Head) : Type 0 where
  pub low : 1 ≤ head.kind
  pub high : head.kind ≤ 3
  pub after : before ≤ head.kind
  pub fits : head.count ≤ capacity head.kind
  pub byte1-zero : head.byte1 ≡ 0
  pub byte6-zero : head.byte6 ≡ 0
  pub byte7-zero : head.byte7 ≡ 0
  pub number_is : head.number ≡ place

right-head : (before place : ℕ) (head : Head) → wrong_head before place head ≡ false → RightHead before place head
unfolding wrong_head
right-head before place head e =
    let a = ltb head.kind 1 in
    let b = ltb 3 head.kind in
    let c = ltb head.kind before in
    let d = not (eqb head.byte1 0) in
    let f = not (eqb head.byte6 0) in
    let g = not (eqb head.byte7 0) in
    let h = not (eqb head.number place) in
    let l = ltb (capacity head.kind) head.count in
    let e7 = or-none (a || b || c || d || f || g || h) l e in
    let e6 = or-none (a || b || c || d || f || g) h e7.0 in
    let e5 = or-none (a || b || c || d || f) g e6.0 in
    let e4 = or-none (a || b || c || d) f e5.0 in
    let e3 = or-none (a || b || c) d e4.0 in
    let e2 = or-none (a || b) c e3.0 in
    let e1 = or-none a b e2.0 in
    record {
      low = ltb-false head.kind 1 e1.0;
      high = ltb-false 3 head.kind e1.1;
      after = ltb-false head.kind before e2.1;
      fits = ltb-false (capacity head.kind) head.count e7.1;
      byte1-zero = zero-byte head.byte1 e3.1;
      byte6-zero = zero-byte head.byte6 e4.1;
      byte7-zero = zero-byte head.byte7 e5.1;
      number_is = eqb-true head.number place (not-false (eqb head.number place) e6.1);
    }

head-is : (kind byte1 number count byte6 byte7 place : ℕ) → byte1 ≡ 0 → number ≡ place → byte6 ≡ 0 → byte7 ≡ 0
    → record { kind = kind; byte1 = byte1; number = number; count = count; byte6 = byte6; byte7 = byte7 } ≡ head_made kind place count
head-is kind byte1 number count byte6 byte7 place a b c d = rw (a, b, c, d)

-- a length that 14 passes
length_some : (len : ℕ) → length_fault len ≡ none → 0 < len / 512
unfolding length_fault
length_some len e =
    let w = (length_whole len e).0 in
    let a = eqb len 0 in
    let b = not (eqb (len % 512) 0) in
    let c = ltb 32768 len in
    let f = (or-none a b (or-none (a || b) c (not-T-false (a || b || c) (given-none (a || b || c) _ e))).0).0 in
    let n = eqb-false len 0 f in
    omega arith

-- ---- filler that 17 passes

all-zeros : (l : List ℕ) → all_zero l ≡ true → l ≡ replicate (length l) 0
unfolding all_zero
all-zeros [] e = refl
all-zeros (x ∷ l) e =
    let p = and_both (eqb x 0) (all_zero l) e in
    let z = eqb-true x 0 p.0 in
    rw (z, ← all-zeros l p.1)

-- ---- a block without a fault

pub record Good (before place kind count : ℕ) (block : List ℕ) : Type 0 where
  pub low : 1 ≤ kind
  pub high : kind ≤ 3
  pub after : before ≤ kind
  pub fits : count ≤ capacity kind
  pub head : head_of block ≡ head_made kind place count
  pub check : fnv1a (take 508 block) ≡ number32 block 508
  pub filler : drop (8 + record_size kind * count) (take 508 block) ≡ zeros (500 - record_size kind * count)

good-block : (before place : ℕ) (block : List ℕ) → length block ≡ 512 → block_fault before place block ≡ none
    → Good before place (head_of block).kind (head_of block).count block
unfolding block_fault wrong_check number32 records_end
good-block before place block whole e =
    let head = head_of block in
    let part = drop (8 + record_size head.kind * head.count) (take 508 block) in
    let one = both-none _ _ e in
    let two = both-none _ _ one.1 in
    let c : not (eqb (fnv1a (take 508 block)) (number32 block 508)) ≡ false = not-T-false _ (given-none _ _ one.0) in
    let r = right-head before place head (not-T-false _ (given-none _ _ two.0)) in
    let w : wrong_filler head block ≡ false = not-T-false _ (given-none _ _ two.1) in
    let z = all-zeros part (not-false (all_zero part) (sym (filler-is head block) ∙ w)) in
    let l : length part ≡ 500 - record_size head.kind * head.count = simp (length-drop, length-take) (omega arith) in
    record {
      low = r.low;
      high = r.high;
      after = r.after;
      fits = r.fits;
      head = head-is _ _ _ _ _ _ _ r.byte1-zero r.number_is r.byte6-zero r.byte7-zero;
      check = eqb-true (fnv1a (take 508 block)) (number32 block 508) (not-false _ c);
      filler = z ∙ rw l (zeros-is _);
    }

-- ---- a file without a fault

module _ (file : List ℕ) where
  pub block-whole : (k : ℕ) → k < block_count file → length (block_at file k) ≡ 512
  unfolding block_at
  block-whole k h = simp (length-take, length-drop) (omega arith)

  pub block-bytes : ((i : ℕ) → get_or file i 0 < 256) → (k at : ℕ) → at < 512 → get_or (block_at file k) at 0 < 256
  block-bytes small k at h = rw (byte_at file k at h) (small (512 * k + at))

  module _ (good : file_fault file ≡ none) where
    pub file-some : 0 < block_count file
    unfolding file_fault blocks_fault
    file-some = length_some (length file) (both-none _ _ good).0

    pub file-block : (k : ℕ) → k < block_count file
        → Good (kind_before (block_at file) k) k (head_of (block_at file k)).kind (head_of (block_at file k)).count (block_at file k)
    unfolding file_fault blocks_fault
    file-block k h =
        good-block _ k (block_at file k) (block-whole k h)
        (block-good (block_at file) k (block_count file) h (both-none _ _ good).1)

    -- kinds do not fall
    pub kinds-rise : (k : ℕ) → suc k < block_count file → (head_of (block_at file k)).kind ≤ (head_of (block_at file (suc k))).kind
    kinds-rise k h = rw kind-after at (file-block (suc k) h).after
