-- Document 02, P1: the packed file is regular. Assumes nothing.
use mathlib.Core.Path.{◌≡◌, refl, sym, ap, ◌∙◌}
use mathlib.Core.Bool.{Bool, true, false}
use mathlib.Core.List.{List}
use mathlib.Core.Logic.{⊎_elim}
use Prim.Native.Nat.{ℕ, zero, suc, ◌+◌, ◌-◌, ◌<◌, ◌≤◌}
use native.Mathlib.Omega.{arith}
use borrow.Author.Tests.{ltb-true, ltb-false}
use lib.Dec.{ltb}
use lib.ListN.{length}
use Rattle.tables.specs.Rows.{Picture}
use Rattle.blocks.specs.Blocks.{head_of, capacity}
use Rattle.blocks.specs.Files.{block_at, block_count}
use Rattle.blocks.specs.declared.Head.{Head}
use Rattle.blocks.proofs.Made.{made-count, made-block}
use Rattle.blocks.proofs.MadeBlocks.{head_made}
use Rattle.packing.specs.Packed.{rows_of, blocks_of, first_of, count_in, kind_block, packed}
use Rattle.packing.specs.Regular.{kind_at, count_at, Regular}
use Rattle.packing.proofs.Lengths.{kinds}
use Rattle.packing.proofs.Regular.{first-by-kind, rows-by-kind, box-block}
use Rattle.packing.proofs.Regular.{no-boxes-one-block, full-but-last, none-empty, no-rows-no-block}
use Rattle.packing.proofs.BlockSays.{kind-head}
use Rattle.packing.proofs.PackedBlocks.{blocks, blocks_all, packed-is, blocks-whole, block_1, block_2, block_3}

module _ (pic : Picture) where
  -- block k is block j of a kind
  record Placed (k : ℕ) : Type 0 where
    kind : ℕ
    j : ℕ
    low : 1 ≤ kind
    high : kind ≤ 3
    there : j < blocks_of pic kind
    place : k ≡ first_of pic kind + j
    same : blocks pic k ≡ kind_block pic kind j

  placed : (k : ℕ) → k < blocks_all pic → Placed k
  placed k h = go (ltb k b1) (ltb k (b1 + b2)) refl refl
    where
      b1 : ℕ
      b1 = blocks_of pic 1

      b2 : ℕ
      b2 = blocks_of pic 2

      first : (first_of pic 1 ≡ 0) × (first_of pic 2 ≡ b1) × (first_of pic 3 ≡ b1 + b2)
      first = first-by-kind pic

      go : (s t : Bool) → ltb k b1 ≡ s → ltb k (b1 + b2) ≡ t → Placed k
      go true t p q =
          let l = ltb-true k b1 p in
          let f = first.0 in
          let e : 0 + k ≡ k = omega arith in
          record {
            kind = 1;
            j = k;
            low = omega arith;
            high = omega arith;
            there = l;
            place = omega arith;
            same = rw e at (block_1 pic k l);
          }
      go false true p q =
          let l = ltb-false k b1 p in
          let m = ltb-true k (b1 + b2) q in
          let f = first.1 in
          let e : b1 + (k - b1) ≡ k = omega arith in
          record {
            kind = 2;
            j = k - b1;
            low = omega arith;
            high = omega arith;
            there = omega arith;
            place = omega arith;
            same = rw e at (block_2 pic (k - b1) (omega arith));
          }
      go false false p q =
          let m = ltb-false k (b1 + b2) q in
          let f = first.2 in
          let e : b1 + b2 + (k - (b1 + b2)) ≡ k = omega arith in
          record {
            kind = 3;
            j = k - (b1 + b2);
            low = omega arith;
            high = omega arith;
            there = omega arith;
            place = omega arith;
            same = rw e at (block_3 pic (k - (b1 + b2)) (omega arith));
          }

  abbrev file : List ℕ
  file = packed pic

  -- the blocks of the file
  file-count : block_count file ≡ blocks_all pic
  file-count = rw packed-is (made-count (blocks pic) _ (blocks-whole pic))

  file-head : (k : ℕ) → k < blocks_all pic → (p : Placed k)
      → head_of (block_at file k)
      ≡ head_made p.kind (first_of pic p.kind + p.j) (count_in pic p.kind p.j)
  file-head k h p =
      ap head_of (rw packed-is (made-block (blocks pic) _ (blocks-whole pic) k h) ∙ p.same)
      ∙ kind-head pic p.kind p.low p.high p.j

  file-kind : (k : ℕ) → k < blocks_all pic → (p : Placed k) → kind_at file k ≡ p.kind
  file-kind k h p = ap (λ (x : Head). x.kind) (file-head k h p)

  records-in : (k : ℕ) → k < blocks_all pic → (p : Placed k) → count_at file k ≡ count_in pic p.kind p.j
  records-in k h p = ap (λ (x : Head). x.count) (file-head k h p)

  -- two blocks of one kind: the first is full
  full-before : (k l : ℕ) → k < l → k < blocks_all pic → l < blocks_all pic → Placed k → Placed l
      → kind_at file k ≡ kind_at file l → count_at file k ≡ capacity (kind_at file k)
  full-before k l less h m p q e =
      let same : q.kind ≡ p.kind = sym (file-kind l m q) ∙ sym e ∙ file-kind k h p in
      let a = p.place in
      let b : l ≡ first_of pic p.kind + q.j = rw same at q.place in
      let t : q.j < blocks_of pic p.kind = rw same at q.there in
      records-in k h p ∙ full-but-last pic p.kind p.low p.high p.j (omega arith)
      ∙ sym (ap capacity (file-kind k h p))

  -- a kind with a block that isn't the first of the file has rows
  rows-some : (kind j n : ℕ) → 1 ≤ kind → kind ≤ 3 → j < blocks_of pic kind → 0 < first_of pic kind + j
      → rows_of pic kind ≡ n → 0 < n
  rows-some kind j (suc n) low high there late e = omega arith
  rows-some kind j zero low high there late e = absurd (⊎_elim
      (λ (q : kind ≡ 1).
      let z : length pic.boxes ≡ 0 = sym (rows-by-kind pic).0 ∙ (rw q at e) in
      let one : blocks_of pic 1 ≡ 1 = (no-boxes-one-block pic z).0 in
      let f = (first-by-kind pic).0 in
      let a : j < blocks_of pic 1 = rw q at there in
      let b : 0 < first_of pic 1 + j = rw q at late in
      omega arith)
      (λ q.
      let no : kind ≡ 1 → ⊥ = λ o. ⊎_elim (λ r. omega arith) (λ r. omega arith) q in
      let z = no-rows-no-block pic kind low high e no in
      omega arith)
      (kinds kind low high))

  some_in_lem : (k : ℕ) → 0 < k → k < blocks_all pic → Placed k → 0 < count_at file k
  some_in_lem k late h p =
      rw (records-in k h p)
      (none-empty pic p.kind p.low p.high p.j p.there
      (rows-some p.kind p.j _ p.low p.high p.there (let e = p.place in omega arith) refl))

  -- block 0 is one of boxes
  abbrev first-box : Placed 0
  first-box =
      let f = (first-by-kind pic).0 in
      let b = box-block pic in
      let s = block_1 pic 0 b in
      record { kind = 1; j = 0; low = omega arith; high = omega arith; there = b; place = omega arith; same = s }

  -- P1: the packed file is regular
  pub packed-regular : Regular (packed pic)
  packed-regular =
      let n = file-count in
      record {
        boxes-first = file-kind 0 (let b = box-block pic in omega arith) first-box;
        full-but-last = λ k l less h e.
            let m : l < blocks_all pic = rw file-count at h in
            full-before k l less (omega arith) m (placed k (omega arith)) (placed l m) e;
        none-empty = λ k late h.
            let l : k < blocks_all pic = rw file-count at h in
            some_in_lem k late l (placed k l);
      }
