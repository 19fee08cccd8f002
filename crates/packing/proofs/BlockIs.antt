-- A block of bytes without a fault is the block that is made of its kind, its number, its count and its records. Assumes nothing.
use mathlib.Core.Path.{◌≡◌, sym, ap, ap₂, ◌∙◌}
use mathlib.Core.List.{List, [], ◌∷◌, ◌++◌, append_assoc}
use Prim.Native.Nat.{ℕ, suc, ◌+◌, ◌*◌, ◌-◌, ◌/◌, ◌%◌, ◌<◌, ◌≤◌}
use native.Mathlib.Omega.{arith}
use lib.ListN.{length, get_or, take, drop, take-append-drop}
use lib.Seq.{take-take, take-add, drop-drop, drop-cons, drop-length}
use Rattle.base.specs.Buffers.{zeros}
use Rattle.tables.specs.Rows.{Picture, row_at, arrow_at}
use Rattle.blocks.specs.Fnv.{fnv1a}
use Rattle.blocks.specs.Blocks.{number16, head_of, record_size, joined}
use Rattle.blocks.specs.Steps.{number32}
use Rattle.blocks.specs.declared.Head.{Head}
use Rattle.blocks.proofs.Made.{joined_same}
use Rattle.blocks.proofs.MadeBlocks.{number16-is, number32-is, head_made}
use Rattle.blocks.proofs.GoodBlocks.{Good, head_bytes_lem}
use Rattle.packing.specs.Packed.{bytes16, bytes32, box_bytes, containment_bytes, arrow_bytes, record_bytes, head_bytes, covered, block_of}
use Rattle.packing.proofs.Chunks.{rows-joined}
use Rattle.packing.proofs.Lengths.{records-fit}

-- ---- the bytes of a number are those that it is said by

split16 : (a b : ℕ) → a < 256 → bytes16 (a + 256 * b) ≡ a ∷ b ∷ []
unfolding bytes16
split16 a b h =
    let p : (a + 256 * b) % 256 ≡ a = omega arith in
    let q : (a + 256 * b) / 256 ≡ b = omega arith in
    rw (p, q)

split32 : (a b c d : ℕ) → a < 256 → b < 256 → c < 256 → bytes32 (a + 256 * b + 65536 * (c + 256 * d)) ≡ a ∷ b ∷ c ∷ d ∷ []
unfolding bytes32
split32 a b c d p q r =
    let low : (a + 256 * b + 65536 * (c + 256 * d)) % 65536 ≡ a + 256 * b = omega arith in
    let high : (a + 256 * b + 65536 * (c + 256 * d)) / 65536 ≡ c + 256 * d = omega arith in
    ap₂ (λ (x y : ℕ). bytes16 x ++ bytes16 y) low high ∙ ap₂ ◌++◌ (split16 a b p) (split16 c d r)

-- ---- a block of 512 bytes

-- its record j, where each has w bytes
abbrev pub record_in : (block : List ℕ) (w j : ℕ) → List ℕ
record_in block w j = take w (drop (8 + w * j) block)

module _ (block : List ℕ) (whole : length block ≡ 512) (small : (at : ℕ) → at < 512 → get_or block at 0 < 256) where
  bytes16-at : (at : ℕ) → at < 512 → bytes16 (number16 block at) ≡ get_or block at 0 ∷ get_or block (at + 1) 0 ∷ []
  bytes16-at at h = ap bytes16 (number16-is block at) ∙ split16 (get_or block at 0) (get_or block (at + 1) 0) (small at h)

  -- one byte more of a part
  part-more : (at n : ℕ) → at < 512 → take (suc n) (drop at block) ≡ get_or block at 0 ∷ take n (drop (suc at) block)
  part-more at n h =
      let l : at < length block = omega arith in
      rw (drop-cons block at 0)

  -- its last four bytes are those of its check
  check-bytes : bytes32 (number32 block 508) ≡ drop 508 block
  check-bytes =
      let a : 508 < length block = omega arith in
      let b : 509 < length block = omega arith in
      let c : 510 < length block = omega arith in
      let d : 511 < length block = omega arith in
      ap bytes32 (number32-is block 508 ∙ ap₂ (λ (x y : ℕ). x + 65536 * y) (number16-is block 508) (number16-is block 510))
      ∙ split32 _ _ _ _ (small 508 (omega arith)) (small 509 (omega arith)) (small 510 (omega arith))
      ∙ sym (drop-cons block 508 0 a
      ∙ ap (λ (x : List ℕ). get_or block 508 0 ∷ x) (drop-cons block 509 0 b
      ∙ ap (λ (x : List ℕ). get_or block 509 0 ∷ x) (drop-cons block 510 0 c
      ∙ ap (λ (x : List ℕ). get_or block 510 0 ∷ x) (drop-cons block 511 0 d
      ∙ ap (λ (x : List ℕ). get_or block 511 0 ∷ x) (ap (λ (n : ℕ). drop n block) (sym whole) ∙ drop-length block)))))

  -- its first eight
  first-eight : take 8 block ≡ get_or block 0 0 ∷ get_or block 1 0 ∷ get_or block 2 0 ∷ get_or block 3 0 ∷ get_or block 4 0 ∷ get_or block 5 0
      ∷ get_or block 6 0 ∷ get_or block 7 0 ∷ []
  first-eight =
      part-more 0 7 (omega arith)
      ∙ ap (λ (x : List ℕ). get_or block 0 0 ∷ x) (part-more 1 6 (omega arith)
      ∙ ap (λ (x : List ℕ). get_or block 1 0 ∷ x) (part-more 2 5 (omega arith)
      ∙ ap (λ (x : List ℕ). get_or block 2 0 ∷ x) (part-more 3 4 (omega arith)
      ∙ ap (λ (x : List ℕ). get_or block 3 0 ∷ x) (part-more 4 3 (omega arith)
      ∙ ap (λ (x : List ℕ). get_or block 4 0 ∷ x) (part-more 5 2 (omega arith)
      ∙ ap (λ (x : List ℕ). get_or block 5 0 ∷ x) (part-more 6 1 (omega arith)
      ∙ ap (λ (x : List ℕ). get_or block 6 0 ∷ x) (part-more 7 0 (omega arith))))))))

  -- are those of its head
  eight_are : (kind number count : ℕ) → head_of block ≡ head_made kind number count → take 8 block ≡ head_bytes kind number count
  unfolding head_bytes
  eight_are kind number count head =
      let e = sym (head_bytes_lem block) ∙ head in
      let k : get_or block 0 0 ≡ kind = ap (λ (h : Head). h.kind) e in
      let z1 : get_or block 1 0 ≡ 0 = ap (λ (h : Head). h.byte1) e in
      let z6 : get_or block 6 0 ≡ 0 = ap (λ (h : Head). h.byte6) e in
      let z7 : get_or block 7 0 ≡ 0 = ap (λ (h : Head). h.byte7) e in
      let n : bytes16 number ≡ get_or block 2 0 ∷ get_or block 3 0 ∷ []
      = sym (ap (λ (h : Head). bytes16 h.number) e) ∙ bytes16-at 2 (omega arith) in
      let c : bytes16 count ≡ get_or block 4 0 ∷ get_or block 5 0 ∷ []
      = sym (ap (λ (h : Head). bytes16 h.count) e) ∙ bytes16-at 4 (omega arith) in
      rw (first-eight, n, c, k, z1, z6, z7)

  -- it is made of its records
  pub block-is : (before number kind count : ℕ) (records : ℕ → List ℕ) → Good before number kind count block
      → ((j : ℕ) → j < count → records j ≡ record_in block (record_size kind) j)
      → block_of kind number count records ≡ block
  unfolding block_of covered
  block-is before number kind count records good own =
      ap (λ (x : List ℕ). x ++ bytes32 (fnv1a x)) front
      ∙ ap (λ (x : ℕ). take 508 block ++ bytes32 x) good.check
      ∙ ap (λ (x : List ℕ). take 508 block ++ x) check-bytes
      ∙ take-append-drop 508 block
    where
      w : ℕ
      w = record_size kind

      rest : joined records count ≡ take (w * count) (drop 8 block)
      rest =
          joined_same records (λ j. take w (drop (w * j) (drop 8 block))) count
          (λ j h. own j h ∙ ap (take w) (sym (drop-drop (w * j) 8 block)))
          ∙ rows-joined w (drop 8 block) count

      fit : w * count ≤ 500
      fit = records-fit kind good.low good.high count good.fits

      front : head_bytes kind number count ++ (joined records count ++ zeros (500 - w * count)) ≡ take 508 block
      front =
          sym (append_assoc (head_bytes kind number count) (joined records count) (zeros (500 - w * count)))
          ∙ ap₂ ◌++◌
          (ap₂ ◌++◌ (sym (eight_are kind number count good.head)) rest ∙ sym (take-add 8 (w * count) block)
          ∙ sym (take-take (8 + w * count) 508 block (let f = fit in omega arith)))
          (sym good.filler)
          ∙ take-append-drop (8 + w * count) (take 508 block)

  -- ---- a row's record is that of the block, where the block says the row

  module _ (pic : Picture) (i j : ℕ) where
    pub box-record : j < 500 → get_or pic.boxes i 0 ≡ get_or block (8 + j) 0 → record_bytes pic 1 i ≡ record_in block 1 j
    unfolding record_bytes box_bytes
    box-record h e =
        let a : 8 + 1 * j ≡ 8 + j = omega arith in
        rw (a, part-more (8 + j) 0 (omega arith), e)

    pub containment-record : j < 125 → (row_at pic.rows i).outer ≡ number16 block (8 + 4 * j)
        → (row_at pic.rows i).inner ≡ number16 block (10 + 4 * j) → record_bytes pic 2 i ≡ record_in block 4 j
    unfolding record_bytes containment_bytes
    containment-record h p q =
        let at = 8 + 4 * j in
        let b : 8 + 4 * j + 1 ≡ suc (8 + 4 * j) = omega arith in
        let c : 10 + 4 * j ≡ suc (suc (8 + 4 * j)) = omega arith in
        let d : 10 + 4 * j + 1 ≡ suc (suc (suc (8 + 4 * j))) = omega arith in
        ap₂ (λ (x y : ℕ). bytes16 x ++ bytes16 y) p q
        ∙ ap₂ ◌++◌ (bytes16-at (8 + 4 * j) (omega arith)) (bytes16-at (10 + 4 * j) (omega arith))
        ∙ rw (
          part-more at 3 (omega arith),
          part-more (suc at) 2 (omega arith),
          part-more (suc (suc at)) 1 (omega arith),
          part-more (suc (suc (suc at))) 0 (omega arith),
          d,
          b,
          c,
        )

    pub arrow-record : j < 83
        → (arrow_at pic.arrows i).tail ≡ number16 block (8 + 6 * j) → (arrow_at pic.arrows i).head ≡ number16 block (10 + 6 * j)
        → (arrow_at pic.arrows i).mode ≡ get_or block (12 + 6 * j) 0 → (arrow_at pic.arrows i).sign ≡ get_or block (13 + 6 * j) 0
        → record_bytes pic 3 i ≡ record_in block 6 j
    unfolding record_bytes arrow_bytes
    arrow-record h p q r s =
        let at = 8 + 6 * j in
        let b : 8 + 6 * j + 1 ≡ suc (8 + 6 * j) = omega arith in
        let c : 10 + 6 * j ≡ suc (suc (8 + 6 * j)) = omega arith in
        let d : 10 + 6 * j + 1 ≡ suc (suc (suc (8 + 6 * j))) = omega arith in
        let e : 12 + 6 * j ≡ suc (suc (suc (suc (8 + 6 * j)))) = omega arith in
        let f : 13 + 6 * j ≡ suc (suc (suc (suc (suc (8 + 6 * j))))) = omega arith in
        let m : (arrow_at pic.arrows i).mode % 256 ≡ get_or block (12 + 6 * j) 0
        = let l = small (12 + 6 * j) (omega arith) in rw r (omega arith) in
        let n : (arrow_at pic.arrows i).sign % 256 ≡ get_or block (13 + 6 * j) 0
        = let l = small (13 + 6 * j) (omega arith) in rw s (omega arith) in
        ap₂ ◌++◌ (ap bytes16 p ∙ bytes16-at (8 + 6 * j) (omega arith))
        (ap₂ ◌++◌ (ap bytes16 q ∙ bytes16-at (10 + 6 * j) (omega arith)) (ap₂ (λ (x y : ℕ). x ∷ y ∷ []) m n))
        ∙ rw (
          part-more at 5 (omega arith),
          part-more (suc at) 4 (omega arith),
          part-more (suc (suc at)) 3 (omega arith),
          part-more (suc (suc (suc at))) 2 (omega arith),
          part-more (suc (suc (suc (suc at)))) 1 (omega arith),
          part-more (suc (suc (suc (suc (suc at))))) 0 (omega arith),
          d,
          b,
          c,
          e,
          f,
        )
