-- The records of a block written one after the other. Assumes nothing.
use mathlib.Core.Path.{◌≡◌, refl, ◌∙◌}
use mathlib.Core.List.{List}
use Prim.Native.Nat.{ℕ, ◌+◌, ◌*◌, ◌<◌, ◌≤◌}
use native.Mathlib.Omega.{arith}
use native.Mathlib.Nat.{add-zero, add_assoc, mul-suc, mul-le-mul_left}
use lib.ListN.{length}
use lib.Seq.{sets, length-sets}
use Rattle.blocks.specs.Blocks.{joined}
use Rattle.blocks.proofs.JoinedLaws.{joined-none}
use Rattle.blocks.proofs.Placing.{put-more as put_next}
use Rattle.block_parts.specs.Walks.{walk_at, Run}
use Rattle.block_parts.specs.declared.Walk.{Walk}
use Rattle.block_parts.proofs.Walking.{walk-within}

-- a loop that has put j of so many records of a table, from a byte on
pub record Put (size capacity rows : ℕ) (bytes : ℕ → List ℕ) (at : ℕ) (file₀ : List ℕ) (w₀ : Walk) (count j : ℕ) (file : List ℕ) (w : Walk)
    : Type 0 where
  pub run : Run size capacity rows w₀ count at (length file₀)
  pub most : j ≤ count
  pub the-walk : w ≡ walk_at capacity (w₀.row + j)
  pub same_length : length file ≡ length file₀
  pub so_far : file ≡ sets file₀ at (joined (λ i. bytes (w₀.row + i)) j)

module _ {size capacity rows : ℕ} {bytes : ℕ → List ℕ} {at : ℕ} {file₀ : List ℕ} {w₀ : Walk} {count : ℕ} where
  pub put-none : Run size capacity rows w₀ count at (length file₀) → Put size capacity rows bytes at file₀ w₀ count 0 file₀ w₀
  put-none run = record {
    run = run;
    most = omega arith;
    the-walk = rw add-zero run.walked;
    same_length = refl;
    so_far = rw (joined-none (λ i. bytes (w₀.row + i)));
  }

  -- a turn of it
  module _ {j : ℕ} {file : List ℕ} {w : Walk} (put : Put size capacity rows bytes at file₀ w₀ count j file w) (less : j < count) where
    -- where the walk stands
    stands : w ≡ record { row = w₀.row + j; block = w₀.block; place = j }
    stands =
        let m = put.run.most in
        put.the-walk ∙ walk-within capacity w₀ put.run.walked put.run.the-place j (omega arith)

    at_row : w.row ≡ w₀.row + j
    at_row = rw stands

    at_place : w.place ≡ j
    at_place = rw stands

    -- what the record asks: its row, and its bytes
    pub put-asks : (to : ℕ) → to ≡ at + size * w.place → (w.row < rows) × (to + size ≤ length file)
    put-asks to e =
        let next : size * j + size ≤ size * count = rw mul-suc at (mul-le-mul_left size less) in
        let here : to ≡ at + size * j = rw (← at_place) e in
        (omega (arith, at_row, put.run.rows_left), omega (arith, put.run.room, put.same_length))

    -- one record more
    pub put-more : ((i : ℕ) → length (bytes i) ≡ size) → (to : ℕ) {file' : List ℕ} {w' : Walk} → to ≡ at + size * w.place
        → file' ≡ sets file to (bytes w.row) → w' ≡ walk_at capacity (w.row + 1)
        → Put size capacity rows bytes at file₀ w₀ count (j + 1) file' w'
    put-more len to place e s = record {
      run = put.run;
      most = omega arith;
      the-walk = s ∙ rw (at_row, add_assoc);
      same_length = rw e (simp length-sets put.same_length);
      so_far = e ∙ rw (stands, put.so_far) (put_next file₀ at _ size (λ i. len (w₀.row + i)) j to (rw (← at_place) place));
    }

  -- all of them
  pub put_all : {j : ℕ} {file : List ℕ} {w : Walk} → Put size capacity rows bytes at file₀ w₀ count j file w → (j < count → ⊥)
      → (w ≡ walk_at capacity (w₀.row + count)) × (file ≡ sets file₀ at (joined (λ i. bytes (w₀.row + i)) count))
  put_all {j} put end =
      let e : j ≡ count = let m = put.most in omega arith in
      (rw e at put.the-walk, rw e at put.so_far)
