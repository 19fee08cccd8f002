-- What a head says by its kind, and bytes or-ed together. Assumes nothing.
use mathlib.Core.Path.{◌≡◌, refl, ◌∙◌}
use mathlib.Core.Bool.{Bool, true, false, not, cond, ◌&&◌, ◌||◌, and_assoc, and-true, or-true}
use mathlib.Core.List.{List, [], ◌∷◌}
use mathlib.Core.Logic.{◌⊎◌, inl, inr}
use Prim.Native.Nat.{ℕ, ◌<◌, ◌≤◌}
use native.Mathlib.Omega.{arith}
use borrow.Author.Tests.{le-ltb, lt-ltb, ne_eqb, eqb-true, eqb-false}
use lib.Bits.{bit_or, or_add_and, and_le_l, and_le_r}
use lib.Dec.{eqb, ltb}
use Rattle.std.specs.List.{fold}
use Rattle.blocks.specs.Blocks.{by_kind, capacity, record_size, wrong_head}
use Rattle.blocks.specs.Steps.{number_of, count_of, all_zero}
use Rattle.blocks.specs.declared.Head.{Head}
use Rattle.blocks.specs.declared.records.Kind.{Kind}
use Rattle.blocks.specs.declared.records.Kind.TheVariants.{Boxes, Containments, Arrows}

cond-most : (t : Bool) {a b m : ℕ} → a ≤ m → b ≤ m → cond t a b ≤ m
cond-most true p q = p
cond-most false p q = q

-- a record has at most 6 bytes
pub size-most : (kind : ℕ) → record_size kind ≤ 6
unfolding record_size by_kind
size-most kind =
    cond-most (eqb kind 1) (omega arith) (cond-most (eqb kind 2) (omega arith) (cond-most (eqb kind 3) (omega arith) (omega arith)))

-- numbers of no kind
not-low : (kind n : ℕ) → (kind < 1) ⊎ (3 < kind) → 1 ≤ n → n ≤ 3 → eqb kind n ≡ false
not-low kind n (inl l) p q = ne_eqb kind n (λ e. omega arith)
not-low kind n (inr h) p q = ne_eqb kind n (λ e. omega arith)

pub no-size : (kind : ℕ) → (kind < 1) ⊎ (3 < kind) → record_size kind ≡ 0
unfolding record_size by_kind
no-size kind h =
    rw (not-low kind 1 h (omega arith) (omega arith), not-low kind 2 h (omega arith) (omega arith), not-low kind 3 h (omega arith) (omega arith))

pub no-kind-wrong : (before place : ℕ) (head : Head) → (head.kind < 1) ⊎ (3 < head.kind) → wrong_head before place head ≡ true
unfolding wrong_head
no-kind-wrong before place head (inl l) = rw (lt-ltb head.kind 1 l)
no-kind-wrong before place head (inr h) = rw (lt-ltb 3 head.kind h, or-true)

-- the numbers of kinds
pub number-low : (kind : Kind) → 1 ≤ number_of kind
number-low Boxes = omega arith
number-low Containments = omega arith
number-low Arrows = omega arith

pub number-high : (kind : Kind) → number_of kind ≤ 3
number-high Boxes = omega arith
number-high Containments = omega arith
number-high Arrows = omega arith

pub kind-wrong : (before place : ℕ) (head : Head) → 1 ≤ head.kind → head.kind ≤ 3
    → wrong_head before place head
    ≡ (ltb head.kind before || not (eqb head.byte1 0) || not (eqb head.byte6 0) || not (eqb head.byte7 0)
    || not (eqb head.number place) || ltb (capacity head.kind) head.count)
unfolding wrong_head
kind-wrong before place head low high = rw (le-ltb head.kind 1 low, le-ltb 3 head.kind high)

pub count_most : (kind : ℕ) (head : Head) → count_of kind head ≤ head.count
unfolding count_of
count_most kind head = cond-most (eqb head.kind kind) (omega arith) (omega arith)

-- bytes or-ed together are zero if each is
or-zero : (a b : ℕ) → eqb (bit_or a b) 0 ≡ (eqb a 0 && eqb b 0)
or-zero a b = go (eqb a 0) refl (eqb b 0) refl
  where
    go : (s : Bool) → eqb a 0 ≡ s → (t : Bool) → eqb b 0 ≡ t → eqb (bit_or a b) 0 ≡ (s && t)
    go true p true q = rw (eqb-true a 0 p, eqb-true b 0 q)
    go true p false q = ne_eqb (bit_or a b) 0 (λ z. eqb-false b 0 q (omega (arith, or_add_and a b, and_le_l a b)))
    go false p t q = ne_eqb (bit_or a b) 0 (λ z. eqb-false a 0 p (omega (arith, or_add_and a b, and_le_r a b)))

pub or-fold : (any : ℕ) (s : List ℕ) → eqb (fold bit_or any s) 0 ≡ (eqb any 0 && all_zero s)
unfolding all_zero
or-fold any [] = rw and-true
or-fold any (x ∷ s) = or-fold (bit_or any x) s ∙ rw (or-zero any x) (and_assoc (eqb any 0) (eqb x 0) (all_zero s))
