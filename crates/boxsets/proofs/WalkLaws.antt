-- The lowest number of a set, where there is one, and a walk that takes it out at each turn: its measure is 256 - low. Assumes nothing.
use mathlib.Core.Path.{◌≡◌, refl, sym, subst, ◌∙◌}
use mathlib.Core.Bool.{Bool, true, false, not, ◌&&◌, ◌||◌}
use Prim.Native.Nat.{ℕ, ◌-◌, ◌<◌, ◌≤◌}
use native.Mathlib.Omega.{arith}
use native.Mathlib.Decide.{ℕ_discrete, dec_lt}
use borrow.Author.Tests.{eq-eqb, ne_eqb}
use lib.Dec.{T, eqb, eqb→eq}
use Rattle.base.proofs.Tests.{T_true, T-eqb, true-T, false-not}
use Rattle.boxsets.specs.Sets.{is_in, low}
use Rattle.boxsets.specs.declared.Set.{Set}
use Rattle.boxsets.proofs.MemberLaws.{in-beyond}
use Rattle.boxsets.proofs.LeastLaws.{least-end, least-most}
use Rattle.boxsets.proofs.LowLaws.{low-in, low-rises, none_in}

-- a set's numbers are below 256
pub in-below : (x : Set) (k : ℕ) → T (is_in x k) → k < 256
in-below x k t = go (dec_lt k 256)
  where
    go : Dec (k < 256) → k < 256
    go (yes l) = l
    go (no l) = absurd (false-not (is_in x k) (in-beyond x k (omega arith)) t)

pub low-most : (x : Set) → low x ≤ 256
unfolding low
low-most x = least-most (is_in x) 256

-- ---- what `is_empty` found

pub empty-none : (x : Set) → eqb (low x) 256 ≡ true → (k : ℕ) → is_in x k ≡ false
empty-none x e = none_in x (eqb→eq (low x) 256 (true-T (eqb (low x) 256) e))

pub none-empty : (x : Set) → ((k : ℕ) → is_in x k ≡ false) → eqb (low x) 256 ≡ true
unfolding low
none-empty x h = let e : low x ≡ 256 = least-end (is_in x) 256 (λ j l t. false-not (is_in x j) (h j) t) in eq-eqb (low x) 256 e

pub some-low : (x : Set) → eqb (low x) 256 ≡ false → (low x < 256) × T (is_in x (low x))
some-low x e =
    let n : low x ≡ 256 → ⊥ = λ i. false-not (eqb (low x) 256) e (T-eqb i) in
    let l : low x < 256 = omega (arith, low-most x) in
    (l, low-in x l)

-- ---- one turn: y is the set without its lowest number

module _ (x y : Set) (drop : (k : ℕ) → is_in y k ≡ (is_in x k && not (eqb k (low x)))) (there : low x < 256) where
  -- the numbers are the lowest, and those left
  pub walk-next : (k : ℕ) → is_in x k ≡ (eqb k (low x) || is_in y k)
  walk-next k = go (ℕ_discrete k (low x))
    where
      and_yes : (b : Bool) → b ≡ (b && true)
      and_yes true = refl
      and_yes false = refl

      go : Dec (k ≡ low x) → is_in x k ≡ (eqb k (low x) || is_in y k)
      go (yes e) = rw (eq-eqb k (low x) e) (T_true (is_in x k) (subst (λ (j : ℕ). T (is_in x j)) (sym e) (low-in x there)))
      go (no n) = rw (ne_eqb k (low x) n) (and_yes (is_in x k) ∙ sym (rw (ne_eqb k (low x) n) at (drop k)))

  pub walk-less : 256 - low y < 256 - low x
  walk-less = omega (arith, low-rises x y drop there)
