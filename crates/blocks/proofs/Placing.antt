-- Rows written one after the other into a lent table. Assumes nothing.
use mathlib.Core.Path.{◌≡◌}
use mathlib.Core.Logic.{⊎_elim}
use mathlib.Core.List.{List, [], ◌∷◌, ◌++◌}
use Prim.Native.Nat.{ℕ, zero, suc, ◌+◌, ◌*◌, ◌<◌, ◌≤◌}
use native.Mathlib.Omega.{arith}
use native.Mathlib.Nat.{add-zero, mul-zero, mul-suc, eq-or-lt_of_le}
use native.Mathlib.Numerals.{add-one}
use lib.ListN.{length, length-append}
use lib.Seq.{sets}
use Rattle.blocks.specs.Blocks.{joined}

-- stores of one run of values after another
pub sets_more : (l : List ℕ) (i : ℕ) (xs ys : List ℕ) → sets (sets l i xs) (i + length xs) ys ≡ sets l i (xs ++ ys)
sets_more l i [] ys = rw add-zero
sets_more l i (x ∷ xs) ys = let e : i + length (x ∷ xs) ≡ suc i + length xs = omega arith in rw e (sets_more _ (suc i) xs ys)

-- the length of n lists of one length
pub joined_length : (f : ℕ → List ℕ) (w n : ℕ) → ((k : ℕ) → k < n → length (f k) ≡ w) → length (joined f n) ≡ w * n
unfolding joined
joined_length f w zero e = rw mul-zero
joined_length f w (suc n) e =
    let l : length (joined f n) ≡ w * n = joined_length f w n (λ k h. e k (omega arith)) in
    simp (length-append, l, e n (omega arith), mul-suc)

-- fewer lists are no longer
pub joined-most : (f : ℕ → List ℕ) (k n : ℕ) → k ≤ n → length (joined f k) ≤ length (joined f n)
unfolding joined
joined-most f k zero h = let e : k ≡ 0 = omega arith in rw e (omega arith)
joined-most f k (suc n) h = ⊎_elim
    (λ e. rw e (omega arith))
    (λ (l : k < suc n). let m : length (joined f k) ≤ length (joined f n) = joined-most f k n (omega arith) in simp length-append (omega arith))
    (eq-or-lt_of_le h)

-- a turn of a loop that stores lists of one length
pub put-more : (l : List ℕ) (at : ℕ) (f : ℕ → List ℕ) (w : ℕ) → ((k : ℕ) → length (f k) ≡ w) → (j i : ℕ) → i ≡ at + w * j
    → sets (sets l at (joined f j)) i (f j) ≡ sets l at (joined f (j + 1))
unfolding joined
put-more l at f w e j i h = rw (h, ← joined_length f w j (λ k _. e k), add-one) (sets_more l at (joined f j) (f j))
