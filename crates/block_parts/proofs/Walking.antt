-- The walk over the rows of a kind: document 02, P5. Assumes nothing.
use mathlib.Core.Path.{◌≡◌, sym, ap, ◌∙◌}
use Prim.Native.Nat.{ℕ, ◌+◌, ◌*◌, ◌/◌, ◌%◌, ◌<◌, ◌≤◌}
use native.Mathlib.Omega.{arith}
use native.Mathlib.Nat.{add-zero, mul-suc, mod-lt, mod-le, mod-eq_of_lt, div-le_self, div-eq_of_lt, div-add-mod}
use native.Mathlib.Nat.{mul-add-div, mul-add-mod_self_left}
use native.Mathlib.Numerals.{add-one}
use Rattle.block_parts.specs.Walks.{walk_at}
use Rattle.block_parts.specs.declared.Walk.{Walk}

-- at the row of a block and a place
walk_at_lem : (cap block place : ℕ) → place < cap
    → walk_at cap (cap * block + place) ≡ record { row = cap * block + place; block = block; place = place }
walk_at_lem cap block place less =
    let q : (cap * block + place) / cap ≡ block = mul-add-div (omega arith) block place ∙ rw (div-eq_of_lt less) (add-zero block) in
    let r : (cap * block + place) % cap ≡ place = mul-add-mod_self_left cap block place ∙ mod-eq_of_lt less in
    rw (q, r)

-- at the first row of a block
pub walk-begun : (cap block : ℕ) → 0 < cap → walk_at cap (cap * block) ≡ record { row = cap * block; block = block; place = 0 }
walk-begun cap block some = rw add-zero at (walk_at_lem cap block 0 some)

module _ (cap : ℕ) (w : Walk) (walked : w ≡ walk_at cap w.row) where
  the_block : w.block ≡ w.row / cap
  the_block = ap (λ (x : Walk). x.block) walked

  the-place : w.place ≡ w.row % cap
  the-place = ap (λ (x : Walk). x.place) walked

  -- no further than the row
  pub walk-small : (w.block ≤ w.row) × (w.place ≤ w.row)
  walk-small = (rw the_block (div-le_self w.row cap), rw the-place (mod-le w.row cap))

  -- the row, by block and place
  the_row : w.row ≡ cap * w.block + w.place
  the_row = rw (the_block, the-place) (sym (div-add-mod w.row cap))

  -- the next row: the next place
  pub next_place : 0 < cap → (w.place + 1 ≡ cap → ⊥)
      → record { row = w.row + 1; block = w.block; place = w.place + 1 } ≡ walk_at cap (w.row + 1)
  next_place some not =
      let less : w.place < cap = rw the-place (mod-lt w.row some) in
      let e : w.row + 1 ≡ cap * w.block + (w.place + 1) = let r = the_row in omega arith in
      rw e (sym (walk_at_lem cap w.block (w.place + 1) (omega arith)))

  -- or the first place of the next block
  pub next-block : 0 < cap → w.place + 1 ≡ cap
      → record { row = w.row + 1; block = w.block + 1; place = 0 } ≡ walk_at cap (w.row + 1)
  next-block some full =
      let m : cap * (w.block + 1) ≡ cap * w.block + cap = rw (add-one w.block, mul-suc) in
      let e : w.row + 1 ≡ cap * (w.block + 1) + 0 = let r = the_row in omega arith in
      rw e (sym (walk_at_lem cap (w.block + 1) 0 some))

  -- within the block at whose first place the walk stands
  pub walk-within : w.place ≡ 0 → (j : ℕ) → j < cap → walk_at cap (w.row + j) ≡ record { row = w.row + j; block = w.block; place = j }
  walk-within begins j less =
      let e : w.row + j ≡ cap * w.block + j = let r = the_row in omega arith in
      rw e (walk_at_lem cap w.block j less)
