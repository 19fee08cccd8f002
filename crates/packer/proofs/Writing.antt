-- A block's parts written one after the other, and a kind's blocks. Assumes nothing.
use mathlib.Core.Path.{◌≡◌, refl, sym, ap, ◌∙◌}
use mathlib.Core.List.{List, ◌++◌, append_assoc}
use Prim.Native.Nat.{ℕ, suc, ◌+◌, ◌*◌, ◌-◌, ◌<◌, ◌≤◌}
use native.Mathlib.Omega.{arith}
use native.Mathlib.Nat.{mul-zero, mul-suc, mul-le-mul_left}
use native.Mathlib.Numerals.{add-one}
use lib.ListN.{length, take, drop, length-append}
use lib.Seq.{sets, length-sets}
use Rattle.base.specs.Buffers.{zeros}
use Rattle.blocks.specs.Fnv.{fnv1a}
use Rattle.blocks.specs.Blocks.{capacity, record_size, joined}
use Rattle.blocks.proofs.JoinedLaws.{joined-none}
use Rattle.blocks.proofs.Placing.{joined_length, put-more}
use Rattle.packing.specs.Packed.{bytes32, head_bytes, block_of, least}
use Rattle.block_parts.specs.Walks.{walk_at}
use Rattle.block_parts.specs.declared.Walk.{Walk}
use Rattle.packer.specs.Kinds.{Kind, block_byte, block_in, Begins, BlocksFit}
use Rattle.packing.proofs.Chunks.{least-high}
use Rattle.packing.proofs.PackedLaws.{covered-is, block-of}
use Rattle.packing.proofs.Lengths.{least-most, capacity-some, head-length, covered-length, block-length}
use Rattle.block_parts.proofs.Putting.{chain, stored}
use Rattle.block_parts.proofs.Walking.{walk-begun}
use Rattle.packer.proofs.KindLaws.{Sized}

module _ (l₀ : List ℕ) {kind : Kind} (known : Sized kind) {w : Walk} {count : ℕ} (begins : Begins kind (length l₀) w count) where
  -- head, records, zeros, and the check of what then stands there
  pub block_made : {l₁ l₂ l₃ l₄ : List ℕ} {at : ℕ} → at ≡ block_byte kind w
      → l₁ ≡ sets l₀ at (head_bytes kind.number (kind.first + w.block) count)
      → l₂ ≡ sets l₁ (block_byte kind w + 8) (joined (λ j. kind.bytes (w.row + j)) count)
      → l₃ ≡ sets l₂ (at + 8 + kind.size * count) (zeros (500 - kind.size * count))
      → l₄ ≡ sets l₃ (at + 508) (bytes32 (fnv1a (take 508 (drop at l₃))))
      → l₄ ≡ sets l₀ (block_byte kind w)
      (block_of kind.number (kind.first + w.block) count (λ j. kind.bytes (w.row + j)))
  block_made {l₁} {l₂} {l₃} {l₄} e₁ p₁ p₂ p₃ p₄ =
      let f : ℕ → List ℕ = λ j. kind.bytes (w.row + j) in
      let len : (j : ℕ) → length (f j) ≡ record_size kind.number = λ j. known.lengths (w.row + j) in
      let fit : count ≤ capacity kind.number = rw (← known.the-capacity) begins.most in
      let h = head_bytes kind.number (kind.first + w.block) count in
      let r = joined f count in
      let u = record_size kind.number * count in
      let z = zeros (500 - u) in
      let head : l₁ ≡ sets l₀ (block_byte kind w) h = rw e₁ at p₁ in
      let two : l₂ ≡ sets l₀ (block_byte kind w) (h ++ r) = chain l₀ l₁ l₂ (block_byte kind w) 8 h r (head-length kind.number _ count) head p₂ in
      let used : length (h ++ r) ≡ 8 + u =
      simp (length-append, head-length kind.number (kind.first + w.block) count, joined_length f (record_size kind.number) count (λ j _. len j)) in
      let behind : block_byte kind w + 8 + u ≡ block_byte kind w + (8 + u) = omega arith in
      let filler : l₃ ≡ sets l₂ (block_byte kind w + (8 + u)) z = rw (e₁, known.the_size, behind) at p₃ in
      let three : l₃ ≡ sets l₀ (block_byte kind w) (h ++ r ++ z) = chain l₀ l₂ l₃ (block_byte kind w) (8 + u) (h ++ r) z used two filler in
      let all : l₃ ≡ sets l₀ (block_byte kind w) (h ++ (r ++ z)) = rw append_assoc at three in
      let whole : length (h ++ (r ++ z)) ≡ 508 = rw covered-is at (covered-length kind.number known.low known.high (kind.first + w.block) count f fit len) in
      let room : block_byte kind w + 508 ≤ length l₀ = let m = begins.room in omega arith in
      let seen : take 508 (drop (block_byte kind w) l₃) ≡ h ++ (r ++ z) = rw all (stored l₀ (block_byte kind w) 508 (h ++ (r ++ z)) whole room) in
      let check : l₄ ≡ sets l₃ (block_byte kind w + 508) (bytes32 (fnv1a (h ++ (r ++ z)))) = rw (e₁, seen) at p₄ in
      rw (block-of, covered-is) (chain l₀ l₃ l₄ (block_byte kind w) 508 (h ++ (r ++ z)) (bytes32 (fnv1a (h ++ (r ++ z)))) whole all check)

-- a loop that has written so many blocks of a kind
module _ (kind : Kind) (l₀ : List ℕ) (blocks : ℕ) where
  pub record Wrote (k : ℕ) (file : List ℕ) (w : Walk) : Type 0 where
    pub most : k ≤ blocks
    pub the-walk : w ≡ walk_at kind.capacity w.row
    pub the_row : k < blocks → w.row ≡ kind.capacity * k
    pub same_length : length file ≡ length l₀
    pub so_far : file ≡ sets l₀ (512 * kind.first) (joined (block_in kind) k)

  pub wrote_none : (w : Walk) → ((capacity : ℕ) → w ≡ walk_at capacity 0) → Wrote 0 l₀ w
  wrote_none w start = record {
    most = omega arith;
    the-walk = rw (start kind.capacity);
    the_row = λ _. rw (start kind.capacity, mul-zero);
    same_length = refl;
    so_far = rw (joined-none (block_in kind));
  }

-- each block has 512 bytes
in-length : {kind : Kind} → Sized kind → (k : ℕ) → length (block_in kind k) ≡ 512
unfolding block_in
in-length {kind} known k =
    block-length kind.number known.low known.high _ _ _ (rw (← known.the-capacity) (least-most (kind.rows - kind.capacity * k) kind.capacity).1)
    (λ j. known.lengths (kind.capacity * k + j))

module _ {kind : Kind} (known : Sized kind) {l₀ : List ℕ} {blocks : ℕ} (fits : BlocksFit kind blocks (length l₀))
    {k : ℕ} {file : List ℕ} {w : Walk} (wrote : Wrote kind l₀ blocks k file w) (less : k < blocks) where
  stands : w ≡ record { row = kind.capacity * k; block = k; place = 0 }
  stands =
      let some : 0 < kind.capacity = rw known.the-capacity (capacity-some kind.number known.low known.high) in
      wrote.the-walk ∙ rw (wrote.the_row less) (walk-begun kind.capacity k some)

  -- the block begins within the rows, and is full if another follows
  begun : kind.capacity * k ≤ kind.rows
  begun =
      let l : suc k ≤ blocks = omega arith in
      let p = mul-le-mul_left kind.capacity l in
      let e : kind.capacity * suc k ≡ kind.capacity * k + kind.capacity = rw mul-suc in
      let f = fits.full in
      omega arith

  is-full : k + 1 < blocks → kind.capacity ≤ kind.rows - kind.capacity * k
  is-full h =
      let l : suc (suc k) ≤ blocks = omega arith in
      let p = mul-le-mul_left kind.capacity l in
      let e : kind.capacity * suc (suc k) ≡ kind.capacity * k + kind.capacity + kind.capacity = rw (mul-suc, mul-suc) in
      let f = fits.full in
      omega arith

  pub row-begun : w.row ≤ kind.rows
  row-begun = rw stands begun

  -- the rows that the next block takes
  module _ {count : ℕ} (is : count ≡ least (kind.rows - w.row) kind.capacity) where
    count-is : count ≡ least (kind.rows - kind.capacity * k) kind.capacity
    count-is = rw stands at is

    pub next-begins : Begins kind (length file) w count
    next-begins =
        let m = least-most (kind.rows - w.row) kind.capacity in
        let r = row-begun in
        let n = fits.numbers in
        let l = fits.room in
        record {
          few = fits.few;
          rows_left = rw is (omega (arith, m.0));
          most = rw is m.1;
          walked = wrote.the-walk;
          the-place = rw stands;
          the_block = rw stands (omega arith);
          room = rw (stands, wrote.same_length) (omega arith);
        }

    -- one block more
    module _ {file' : List ℕ} {w' : Walk} (walked : w' ≡ walk_at kind.capacity (w.row + count))
        (put : file' ≡ sets file (block_byte kind w) (block_of kind.number (kind.first + w.block) count (λ j. kind.bytes (w.row + j)))) where
      next-block : block_of kind.number (kind.first + w.block) count (λ j. kind.bytes (w.row + j)) ≡ block_in kind k
      unfolding block_in
      next-block = rw (stands, count-is)

      next_row : w'.row ≡ w.row + count
      next_row = rw walked

      next-begun : k + 1 < blocks → w'.row ≡ kind.capacity * (k + 1)
      next-begun h =
          let full : count ≡ kind.capacity = count-is ∙ least-high _ kind.capacity (is-full h) in
          next_row ∙ rw (full, stands, add-one k, mul-suc)

      pub wrote-more : Wrote kind l₀ blocks (k + 1) file' w'
      wrote-more = record {
        most = omega arith;
        the-walk = walked ∙ ap (λ (r : ℕ). walk_at kind.capacity r) (sym next_row);
        the_row = next-begun;
        same_length = rw put (simp length-sets wrote.same_length);
        so_far = put ∙ rw (next-block, wrote.so_far)
            (put-more l₀ (512 * kind.first) (block_in kind) 512 (in-length known) k _ (rw stands (omega arith)));
      }
