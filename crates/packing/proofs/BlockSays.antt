-- What a block that is made says, and that it has no fault. Assumes nothing.
use mathlib.Core.Path.{◌≡◌, refl, sym, ap, ap₂, ◌∙◌}
use mathlib.Core.List.{List, [], ◌∷◌, ◌++◌, append_assoc}
use Rattle.std.specs.Prelude.{None as none}
use Prim.Native.Nat.{ℕ, ◌+◌, ◌*◌, ◌-◌, ◌/◌, ◌%◌, ◌<◌, ◌≤◌}
use native.Mathlib.Omega.{arith}
use lib.ListN.{length, get_or, take, drop}
use lib.Seq.{take_at, drop_at, drop-append-add, get_or-append-add}
use Rattle.base.specs.Buffers.{zeros}
use Rattle.tables.specs.Rows.{Picture, row_at, arrow_at}
use Rattle.blocks.specs.Fnv.{fnv1a}
use Rattle.blocks.specs.Blocks.{number16, head_of, capacity, record_size, joined, said, block_fault}
use Rattle.blocks.specs.Steps.{number32}
use Rattle.blocks.proofs.Placing.{joined_length}
use Rattle.blocks.proofs.MadeBlocks.{record-sizes, number16-is, number32-is, head_made, head-made, RecordIs, block-passed}
use Rattle.blocks.proofs.MadeBlocks.{box-row, containment-row, arrow-row, rows_are}
use Rattle.packing.specs.Packed.{bytes16, bytes32, box_bytes, containment_bytes, arrow_bytes, head_bytes, covered, block_of}
use Rattle.packing.specs.Packed.{record_bytes, first_of, count_in, kind_block}
use Rattle.packing.proofs.Chunks.{joined_at}
use Rattle.packing.proofs.Lengths.{head-length, covered-length, record-length, count_most}

-- a number is what its two bytes say
two_bytes : (x : ℕ) → x % 256 + 256 * (x / 256) ≡ x
two_bytes x = omega arith

-- a number of 32 bits behind other bytes
byte-behind : (xs ys : List ℕ) (n i : ℕ) → length xs ≡ n → get_or (xs ++ ys) (n + i) 0 ≡ get_or ys i 0
byte-behind xs ys n i e = rw (← e) (get_or-append-add xs ys i 0)

check-behind : (xs : List ℕ) (x : ℕ) → length xs ≡ 508 → number32 (xs ++ bytes32 x) 508 ≡ x
unfolding bytes32 bytes16
check-behind xs x e =
    let a = byte-behind xs (bytes32 x) 508 0 e in
    let b = byte-behind xs (bytes32 x) 508 1 e in
    let c = byte-behind xs (bytes32 x) 508 2 e in
    let d = byte-behind xs (bytes32 x) 508 3 e in
    number32-is (xs ++ bytes32 x) 508 ∙ ap₂ (λ (p q : ℕ). p + 65536 * q) (number16-is (xs ++ bytes32 x) 508) (number16-is (xs ++ bytes32 x) 510) ∙ omega arith

module _ (kind : ℕ) (low : 1 ≤ kind) (high : kind ≤ 3) (number count : ℕ) (records : ℕ → List ℕ)
    (most : count ≤ capacity kind) (len : (j : ℕ) → length (records j) ≡ record_size kind) where
  block-head : head_of (block_of kind number count records) ≡ head_made kind number count
  unfolding block_of covered head_bytes bytes16
  block-head =
      head-made kind (number % 256) (number / 256) (count % 256) (count / 256) _
      ∙ ap₂ (λ (n c : ℕ). head_made kind n c) (two_bytes number) (two_bytes count)

  block-covers : take 508 (block_of kind number count records) ≡ covered kind number count records
  unfolding block_of
  block-covers = take_at (covered kind number count records) _ 508 (covered-length kind low high number count records most len)

  block-check : fnv1a (take 508 (block_of kind number count records)) ≡ number32 (block_of kind number count records) 508
  unfolding block_of
  block-check =
      ap fnv1a block-covers
      ∙ sym (check-behind (covered kind number count records) _ (covered-length kind low high number count records most len))

  block-filler : drop (8 + record_size kind * count) (take 508 (block_of kind number count records)) ≡ zeros (500 - record_size kind * count)
  unfolding covered
  block-filler =
      let w = record_size kind * count in
      let h = head_bytes kind number count in
      let r = joined records count in
      let z = zeros (500 - w) in
      ap (drop (8 + w)) block-covers
      ∙ ap (λ (n : ℕ). drop (n + w) (h ++ (r ++ z))) (sym (head-length kind number count))
      ∙ drop-append-add h (r ++ z) w
      ∙ drop_at r z w (joined_length records (record_size kind) count (λ j l. len j))

  -- after blocks of no higher kind, at its place
  block-sound : (before : ℕ) → before ≤ kind → block_fault before number (block_of kind number count records) ≡ none
  block-sound before after = block-passed before number kind count _ _ block-head low high after most block-check block-filler

  -- its records are those that it is made of
  record_is : (j : ℕ) → j < count → RecordIs (block_of kind number count records) (record_size kind) j (records j)
  unfolding block_of covered
  record_is j l i h =
      let w = record_size kind in
      let a = head_bytes kind number count in
      let r = joined records count in
      let z = zeros (500 - w * count) in
      let c = bytes32 (fnv1a (covered kind number count records)) in
      ap (λ (x : List ℕ). get_or x (8 + (w * j + i)) 0) (append_assoc a (r ++ z) c)
      ∙ byte-behind a ((r ++ z) ++ c) 8 (w * j + i) (head-length kind number count)
      ∙ ap (λ (x : List ℕ). get_or x (w * j + i) 0) (append_assoc r z c)
      ∙ joined_at records w count (λ k m. len k) (z ++ c) j i l h

-- ---- a packed block

module _ (pic : Picture) where
  module _ (kind : ℕ) (low : 1 ≤ kind) (high : kind ≤ 3) (k : ℕ) where
    pub kind-head : head_of (kind_block pic kind k) ≡ head_made kind (first_of pic kind + k) (count_in pic kind k)
    unfolding kind_block
    kind-head = block-head kind low high _ _ _ (count_most kind low high pic k) (λ j. record-length kind low high pic _)

    pub kind-sound : (before : ℕ) → before ≤ kind
        → block_fault before (first_of pic kind + k) (kind_block pic kind k) ≡ none
    unfolding kind_block
    kind-sound = block-sound kind low high _ _ _ (count_most kind low high pic k) (λ j. record-length kind low high pic _)

    pub kind-record : (j : ℕ) → j < count_in pic kind k
        → RecordIs (kind_block pic kind k) (record_size kind) j (record_bytes pic kind (capacity kind * k + j))
    unfolding kind_block
    kind-record = record_is kind low high _ _ _ (count_most kind low high pic k) (λ j. record-length kind low high pic _)

  -- the rows of its own kind
  box-bytes : (i : ℕ) → get_or (record_bytes pic 1 i) 0 0 ∷ [] ≡ get_or pic.boxes i 0 ∷ []
  unfolding record_bytes box_bytes
  box-bytes i = refl

  containment-bytes : (i : ℕ) → number16 (record_bytes pic 2 i) 0 ∷ number16 (record_bytes pic 2 i) 2 ∷ []
      ≡ (row_at pic.rows i).outer ∷ (row_at pic.rows i).inner ∷ []
  unfolding record_bytes containment_bytes bytes16
  containment-bytes i =
      let r = record_bytes pic 2 i in
      ap₂ (λ (o n : ℕ). o ∷ n ∷ [])
      (number16-is r 0 ∙ two_bytes (row_at pic.rows i).outer) (number16-is r 2 ∙ two_bytes (row_at pic.rows i).inner)

  arrow-bytes : (i : ℕ) → (arrow_at pic.arrows i).mode ≤ 7 → (arrow_at pic.arrows i).sign ≤ 1
      → number16 (record_bytes pic 3 i) 0 ∷ number16 (record_bytes pic 3 i) 2
      ∷ get_or (record_bytes pic 3 i) 4 0 ∷ get_or (record_bytes pic 3 i) 5 0 ∷ []
      ≡ (arrow_at pic.arrows i).tail ∷ (arrow_at pic.arrows i).head ∷ (arrow_at pic.arrows i).mode ∷ (arrow_at pic.arrows i).sign ∷ []
  unfolding record_bytes arrow_bytes bytes16
  arrow-bytes i mode sign =
      let r = record_bytes pic 3 i in
      let m : (arrow_at pic.arrows i).mode % 256 ≡ (arrow_at pic.arrows i).mode = omega arith in
      let s : (arrow_at pic.arrows i).sign % 256 ≡ (arrow_at pic.arrows i).sign = omega arith in
      ap₂ (λ (t h : ℕ). t ∷ h ∷ (arrow_at pic.arrows i).mode % 256 ∷ (arrow_at pic.arrows i).sign % 256 ∷ [])
      (number16-is r 0 ∙ two_bytes (arrow_at pic.arrows i).tail) (number16-is r 2 ∙ two_bytes (arrow_at pic.arrows i).head)
      ∙ rw (m, s)

  pub boxes-said : (k : ℕ) → said 1 (kind_block pic 1 k)
      ≡ joined (λ j. get_or pic.boxes (capacity 1 * k + j) 0 ∷ []) (count_in pic 1 k)
  boxes-said k =
      rows_are _ 1 _ _ (kind-head 1 (omega arith) (omega arith) k) _
      (λ j l.
      box-row _ j (record_bytes pic 1 (capacity 1 * k + j)) (rw record-sizes.0 at (kind-record 1 (omega arith) (omega arith) k j l))
      ∙ box-bytes (capacity 1 * k + j))

  pub containments-said : (k : ℕ) → said 2 (kind_block pic 2 k)
      ≡ joined (λ j. (row_at pic.rows (capacity 2 * k + j)).outer ∷ (row_at pic.rows (capacity 2 * k + j)).inner ∷ []) (count_in pic 2 k)
  containments-said k =
      rows_are _ 2 _ _ (kind-head 2 (omega arith) (omega arith) k) _
      (λ j l.
      containment-row _ j _ (rw record-sizes.1 at (kind-record 2 (omega arith) (omega arith) k j l))
      ∙ containment-bytes (capacity 2 * k + j))

  -- a mode and a sign are bytes
  pub arrows-said : (k : ℕ)
      → ((j : ℕ) → j < count_in pic 3 k
      → ((arrow_at pic.arrows (capacity 3 * k + j)).mode ≤ 7) × ((arrow_at pic.arrows (capacity 3 * k + j)).sign ≤ 1))
      → said 3 (kind_block pic 3 k)
      ≡ joined (λ j. (arrow_at pic.arrows (capacity 3 * k + j)).tail ∷ (arrow_at pic.arrows (capacity 3 * k + j)).head
      ∷ (arrow_at pic.arrows (capacity 3 * k + j)).mode ∷ (arrow_at pic.arrows (capacity 3 * k + j)).sign ∷ []) (count_in pic 3 k)
  arrows-said k small =
      rows_are _ 3 _ _ (kind-head 3 (omega arith) (omega arith) k) _
      (λ j l.
      arrow-row _ j _ (rw record-sizes.2 at (kind-record 3 (omega arith) (omega arith) k j l))
      ∙ arrow-bytes (capacity 3 * k + j) (small j l).0 (small j l).1)
