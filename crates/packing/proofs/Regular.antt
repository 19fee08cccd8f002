-- The packing is regular: blocks of each kind are full but the last, and none is empty, except that a picture without boxes has one box
-- block of count 0. Every row is in a block. Assumes nothing.
use mathlib.Core.Path.{◌≡◌, refl, ◌∙◌}
use mathlib.Core.Bool.{Bool, true, false, cond}
use Prim.Native.Nat.{ℕ, suc, ◌+◌, ◌*◌, ◌-◌, ◌/◌, ◌<◌, ◌≤◌}
use native.Mathlib.Omega.{arith}
use native.Mathlib.Nat.{add-zero, mul-suc, mul-le-mul_left, mul-add-div, div-eq_of_lt}
use borrow.Author.Tests.{eq-eqb, eqb-true, eqb-false}
use lib.Dec.{eqb, ltb}
use lib.ListN.{length}
use Rattle.tables.specs.Rows.{Picture, row_count, arrow_count}
use Rattle.blocks.specs.Blocks.{capacity}
use Rattle.blocks.proofs.MadeBlocks.{of-boxes, of-containments, of-arrows, capacities}
use Rattle.packing.specs.Packed.{least, blocks_for, rows_of, blocks_of, first_of, count_in}
use Rattle.packing.proofs.Lengths.{of-kind, capacity-some}
use Rattle.packing.proofs.Chunks.{least-low, least-high}

-- ---- the smaller of two

-- below both of two
pub least_above : (i a b : ℕ) → i < a → i < b → i < least a b
unfolding least
least_above i a b p q = go (ltb a b)
  where
    go : (t : Bool) → i < cond t a b
    go true = p
    go false = q

-- the second, if it is not the first
pub least-second : (a b : ℕ) → least a b < a → least a b ≡ b
unfolding least
least-second a b = go (ltb a b)
  where
    go : (t : Bool) → cond t a b < a → cond t a b ≡ b
    go true h = absurd (omega arith)
    go false h = refl

-- ---- m blocks of c records for n rows

pub record Fills (c n m : ℕ) : Type 0 where
  pub enough : n ≤ c * m
  pub few : c * m ≤ n + c
  pub no_more : 0 < n → c * m < n + c

-- so many blocks, if the rows fit and one block fewer is too few
pub blocks-are : (c n m : ℕ) → 0 < c → n ≤ c * m → c * m < n + c → blocks_for c n ≡ m
unfolding blocks_for
blocks-are c n m some enough few =
    let r = n + (c - 1) - c * m in
    let e : n + (c - 1) ≡ c * m + r = omega arith in
    let l : r < c = omega arith in
    rw e (mul-add-div some m r ∙ rw (div-eq_of_lt l) (add-zero m))

-- all but the last block are full
fills-full : (c n m k : ℕ) → Fills c n m → k + 1 < m → c ≤ n - c * k
fills-full c n m k f h =
    let l : suc (suc k) ≤ m = omega arith in
    let p = mul-le-mul_left c l in
    let e : c * suc (suc k) ≡ c * k + c + c = rw (mul-suc, mul-suc) in
    omega arith

-- the last block begins before the end
fills-some : (c n m k : ℕ) → Fills c n m → k < m → 0 < n → 0 < n - c * k
fills-some c n m k f h some =
    let l : suc k ≤ m = omega arith in
    let p = mul-le-mul_left c l in
    let e : c * suc k ≡ c * k + c = rw mul-suc in
    let q = f.no_more some in
    omega arith

fills-boxes : (n : ℕ) → Fills 500 n (cond (eqb n 0) 1 (blocks_for 500 n))
unfolding blocks_for
fills-boxes n = go (eqb n 0) refl
  where
    go : (t : Bool) → eqb n 0 ≡ t → Fills 500 n (cond t 1 ((n + 499) / 500))
    go true e = let z = eqb-true n 0 e in record { enough = omega arith; few = omega arith; no_more = λ h. omega arith }
    go false e = record { enough = omega arith; few = omega arith; no_more = λ h. omega arith }

fills-containments : (n : ℕ) → Fills 125 n (blocks_for 125 n)
unfolding blocks_for
fills-containments n = record { enough = omega arith; few = omega arith; no_more = λ h. omega arith }

fills-arrows : (n : ℕ) → Fills 83 n (blocks_for 83 n)
unfolding blocks_for
fills-arrows n = record { enough = omega arith; few = omega arith; no_more = λ h. omega arith }

module _ (pic : Picture) where
  -- ---- by kind

  pub rows-by-kind : (rows_of pic 1 ≡ length pic.boxes) × (rows_of pic 2 ≡ row_count pic.rows)
      × (rows_of pic 3 ≡ arrow_count pic.arrows)
  unfolding rows_of
  rows-by-kind = (of-boxes _ _ _, of-containments _ _ _, of-arrows _ _ _)

  pub blocks-by-kind : (blocks_of pic 1 ≡ cond (eqb (length pic.boxes) 0) 1 (blocks_for 500 (length pic.boxes)))
      × (blocks_of pic 2 ≡ blocks_for 125 (row_count pic.rows)) × (blocks_of pic 3 ≡ blocks_for 83 (arrow_count pic.arrows))
  unfolding blocks_of
  blocks-by-kind = (
    rw (rows-by-kind.0, capacities.0),
    rw (rows-by-kind.1, capacities.1),
    rw (rows-by-kind.2, capacities.2),
  )

  pub first-by-kind : (first_of pic 1 ≡ 0) × (first_of pic 2 ≡ blocks_of pic 1)
      × (first_of pic 3 ≡ blocks_of pic 1 + blocks_of pic 2)
  unfolding first_of
  first-by-kind = (of-boxes _ _ _, of-containments _ _ _, of-arrows _ _ _)

  pub fills-1 : Fills 500 (length pic.boxes) (blocks_of pic 1)
  fills-1 = rw blocks-by-kind.0 (fills-boxes (length pic.boxes))

  pub fills-2 : Fills 125 (row_count pic.rows) (blocks_of pic 2)
  fills-2 = rw blocks-by-kind.1 (fills-containments (row_count pic.rows))

  pub fills-3 : Fills 83 (arrow_count pic.arrows) (blocks_of pic 3)
  fills-3 = rw blocks-by-kind.2 (fills-arrows (arrow_count pic.arrows))

  -- there is a box block
  pub box-block : 0 < blocks_of pic 1
  unfolding blocks_for
  box-block = rw blocks-by-kind.0 (go (eqb (length pic.boxes) 0) refl)
    where
      go : (t : Bool) → eqb (length pic.boxes) 0 ≡ t → 0 < cond t 1 ((length pic.boxes + 499) / 500)
      go true e = omega arith
      go false e = let n = eqb-false (length pic.boxes) 0 e in omega arith

  -- a picture without boxes has one, of count 0
  pub no-boxes-one-block : length pic.boxes ≡ 0 → (blocks_of pic 1 ≡ 1) × (count_in pic 1 0 ≡ 0)
  unfolding count_in
  no-boxes-one-block e =
      let z : length pic.boxes - capacity 1 * 0 ≡ 0 = omega arith in
      (rw (blocks-by-kind.0, eq-eqb (length pic.boxes) 0 e), rw (rows-by-kind.0, z, least-low 0 (capacity 1) (omega arith)))

  module _ (kind : ℕ) (low : 1 ≤ kind) (high : kind ≤ 3) where
    fills : Fills (capacity kind) (rows_of pic kind) (blocks_of pic kind)
    fills =
        of-kind kind low high (λ k. Fills (capacity k) (rows_of pic k) (blocks_of pic k))
        (rw (capacities.0, rows-by-kind.0) fills-1) (rw (capacities.1, rows-by-kind.1) fills-2) (rw (capacities.2, rows-by-kind.2) fills-3)

    -- every row is in a block
    pub all-packed : rows_of pic kind ≤ capacity kind * blocks_of pic kind
    all-packed = fills.enough

    -- all blocks of a kind but the last are full
    pub full-but-last : (k : ℕ) → k + 1 < blocks_of pic kind → count_in pic kind k ≡ capacity kind
    unfolding count_in
    full-but-last k h = least-high _ (capacity kind) (fills-full (capacity kind) _ _ k fills h)

    -- no block of a kind that has rows is empty
    pub none-empty : (k : ℕ) → k < blocks_of pic kind → 0 < rows_of pic kind → 0 < count_in pic kind k
    unfolding count_in
    none-empty k h some = least_above 0 _ (capacity kind) (fills-some (capacity kind) _ _ k fills h some) (capacity-some kind low high)

    -- containments or arrows that aren't there have no block
    pub no-rows-no-block : rows_of pic kind ≡ 0 → (kind ≡ 1 → ⊥) → blocks_of pic kind ≡ 0
    unfolding blocks_for
    no-rows-no-block =
        of-kind kind low high (λ k. rows_of pic k ≡ 0 → (k ≡ 1 → ⊥) → blocks_of pic k ≡ 0)
        (λ e n. absurd (n refl))
        (λ e n. rw blocks-by-kind.1 (omega (arith, rows-by-kind.1)))
        (λ e n. rw blocks-by-kind.2 (omega (arith, rows-by-kind.2)))
