-- The blocks of so many rows counted one by one. Assumes nothing.
use mathlib.Core.Path.{◌≡◌, sym, ◌∙◌}
use Rattle.std.proofs.Common.{min, refl, Bool, true, false}
use Rattle.packing.proofs.Chunks.{least-low, least-high}
use borrow.Author.Tests.{ltb-true, ltb-false}
use lib.Dec.{ltb}
use Prim.Native.Nat.{ℕ, ◌+◌, ◌*◌, ◌-◌, ◌<◌, ◌≤◌}
use native.Mathlib.Omega.{arith}
use native.Mathlib.Nat.{mul-zero, mul-suc}
use native.Mathlib.Numerals.{add-one}
use Rattle.packing.specs.Packed.{least, blocks_for}
use Rattle.packing.proofs.Lengths.{least-most}
use Rattle.packing.proofs.Regular.{least_above, least-second, blocks-are}

-- the library's smaller of two
pub least-of : (a b : ℕ) → min a b ≡ least a b
least-of a b = go (ltb a b) refl
  where
    go : (t : Bool) → ltb a b ≡ t → min a b ≡ least a b
    go true e =
        let h = ltb-true a b e in
        let m : min a b ≡ a = omega arith in
        m ∙ sym (least-low a b (omega arith))
    go false e =
        let h = ltb-false a b e in
        let m : min a b ≡ b = omega arith in
        m ∙ sym (least-high a b h)

-- a loop that has taken the rows of m blocks, each full or with the rows that were left
pub record Taken (c n m row : ℕ) : Type 0 where
  pub most : row ≤ n
  pub few : m ≤ row
  pub enough : row ≤ c * m
  pub begun : c * m < n + c
  pub full : row < n → row ≡ c * m

module _ (c n : ℕ) (some : 0 < c) where
  pub taken_none : Taken c n 0 0
  taken_none = record { most = omega arith; few = omega arith; enough = omega arith; begun = rw mul-zero (omega arith); full = λ h. rw mul-zero }

  module _ (m row count : ℕ) (t : Taken c n m row) (less : row < n) (is : count ≡ least (n - row) c) where
    -- one block more takes a row at least
    pub taken-some : (0 < count) × (count ≤ n - row)
    taken-some = (rw is (least_above 0 (n - row) c (omega arith) some), rw is (least-most (n - row) c).0)

    pub taken_more : Taken c n (m + 1) (row + count)
    taken_more =
        let e : c * (m + 1) ≡ c * m + c = rw (add-one m, mul-suc) in
        let l = least-most (n - row) c in
        let f = t.full less in
        record {
          most = omega (arith, taken-some.1);
          few = omega (arith, taken-some.0, t.few);
          enough = omega (arith, l.1);
          begun = omega arith;
          full = λ more. let s : count ≡ c = is ∙ least-second (n - row) c (omega arith) in omega arith;
        }

  pub taken-all : (m row : ℕ) → Taken c n m row → (row < n → ⊥) → m ≡ blocks_for c n
  taken-all m row t end = sym (blocks-are c n m some (let a = t.enough in omega arith) t.begun)
