-- Bytes stored one after the other. Assumes nothing.
use mathlib.Core.Path.{◌≡◌, sym, ap, ◌∙◌}
use mathlib.Core.List.{List, [], ◌∷◌, ◌++◌, append_assoc}
use Prim.Native.Nat.{ℕ, ◌+◌, ◌/◌, ◌%◌, ◌^◌, ◌<◌, ◌≤◌}
use native.Mathlib.Omega.{arith}
use lib.ListN.{length, take, drop, length-take}
use lib.Seq.{sets, sets-eq, drop_at, take_at, drop-drop}
use Rattle.std.specs.Int.{w16, w32, to_le_bytes}
use Rattle.packing.specs.Packed.{bytes16, bytes32}
use Rattle.packing.proofs.PackedLaws.{bytes16-is, bytes32-is}
use Rattle.blocks.proofs.Placing.{sets_more}

-- a store behind what is stored
puts-more : (l : List ℕ) (i n : ℕ) (xs ys : List ℕ) → length xs ≡ n → sets (sets l i xs) (i + n) ys ≡ sets l i (xs ++ ys)
puts-more l i n xs ys e = rw (← e) (sets_more l i xs ys)

pub chain : (l₀ l₁ l₂ : List ℕ) (at n : ℕ) (xs ys : List ℕ) → length xs ≡ n → l₁ ≡ sets l₀ at xs → l₂ ≡ sets l₁ (at + n) ys
    → l₂ ≡ sets l₀ at (xs ++ ys)
chain l₀ l₁ l₂ at n xs ys e p q = q ∙ ap (λ (l : List ℕ). sets l (at + n) ys) p ∙ puts-more l₀ at n xs ys e

-- a part of a list overwritten
pub put-part : (l ys : List ℕ) (at : ℕ) → at + length ys ≤ length l → take at l ++ (ys ++ drop (length ys) (drop at l)) ≡ sets l at ys
put-part l ys at h = rw (drop-drop, sets-eq ys l at h) (sym (append_assoc (take at l) ys (drop (at + length ys) l)))

-- a number's bytes, low first
pub bytes-16 : (x : ℕ) → x < 2 ^ 16 → to_le_bytes w16 x ≡ bytes16 x
bytes-16 x h =
    let e : x / 256 % 256 ≡ x / 256 = omega arith in
    rw bytes16-is (ap (λ (y : ℕ). x % 256 ∷ y ∷ []) e)

pub put-16 : (l₀ l₁ : List ℕ) (at x : ℕ) (bytes : List ℕ) → x < 2 ^ 16 → bytes ≡ to_le_bytes w16 x → l₁ ≡ sets l₀ at bytes
    → l₁ ≡ sets l₀ at (bytes16 x)
put-16 l₀ l₁ at x bytes h e p = p ∙ ap (λ (l : List ℕ). sets l₀ at l) (e ∙ bytes-16 x h)

pub bytes-32 : (x : ℕ) → x < 2 ^ 32 → to_le_bytes w32 x ≡ bytes32 x
bytes-32 x h =
    let a : x % 65536 % 256 ≡ x % 256 = omega arith in
    let b : x % 65536 / 256 ≡ x / 256 % 256 = omega arith in
    let c : x / 65536 / 256 ≡ x / 16777216 % 256 = omega arith in
    rw (bytes32-is, bytes16-is (x % 65536), bytes16-is (x / 65536), a, b, c)

-- what was just stored stands there
pub stored : (l : List ℕ) (at n : ℕ) (xs : List ℕ) → length xs ≡ n → at + n ≤ length l → take n (drop at (sets l at xs)) ≡ xs
stored l at n xs e h =
    let r : at + length xs ≤ length l = omega arith in
    let t : length (take at l) ≡ at = simp length-take (omega arith) in
    ap (λ (s : List ℕ). take n (drop at s)) (sets-eq xs l at r) ∙ rest (drop (at + length xs) l) t
  where
    rest : (ys : List ℕ) → length (take at l) ≡ at → take n (drop at (take at l ++ xs ++ ys)) ≡ xs
    rest ys t =
        ap (λ (s : List ℕ). take n (drop at s)) (append_assoc (take at l) xs ys) ∙ ap (take n) (drop_at (take at l) (xs ++ ys) at t) ∙ take_at xs ys n e
