-- Warshall's rounds, from the rows of a table whose boxes are below n: after n of them, what contains what. Assumes nothing.
use mathlib.Core.Path.{◌≡◌, subst}
use mathlib.Core.Logic.{◌⊎◌, ⊎_elim, ⊎_map}
use mathlib.Core.Bool.{Bool, ◌&&◌}
use mathlib.Core.List.{List}
use Prim.Native.Nat.{ℕ, zero, suc, ◌<◌}
use native.Mathlib.Nat.{eq-or-lt_of_le, le_of_suc-le-suc, not-suc-le-zero}
use lib.Dec.{T}
use Rattle.containment.specs.Contains.{Row, Chain, one, more, direct, contains}
use Rattle.containment.specs.Steps.{through, rounds}
use Rattle.base.proofs.Tests.{or-T, T-or₁, T-or₂, and_T, T_and, T-same}
use Rattle.containment.proofs.ContainsLaws.{direct-row, row-direct, contains-chain, row-contains, contains-trans}

-- ---- one round

module _ (f : ℕ → ℕ → Bool) (k a b : ℕ) where
  through-cases : T (through f k a b) → T (f a b) ⊎ (T (f a k) × T (f k b))
  unfolding through
  through-cases t = ⊎_map (λ o. o) (and_T (f a k) (f k b)) (or-T (f a b) (f a k && f k b) t)

  through-old : T (f a b) → T (through f k a b)
  unfolding through
  through-old t = T-or₁ (f a b) (f a k && f k b) t

  through-new : T (f a k) → T (f k b) → T (through f k a b)
  unfolding through
  through-new t u = T-or₂ (f a b) (f a k && f k b) (T_and (f a k) (f k b) t u)

-- ---- all rounds

module _ (rows : List ℕ) where
  R : ℕ → ℕ → ℕ → Bool
  R = rounds (direct rows)

  rounds-contain : (k a b : ℕ) → T (R k a b) → T (contains rows a b)
  unfolding rounds R
  rounds-contain zero a b t = row-contains (direct-row rows a b t)
  rounds-contain (suc k) a b t =
      ⊎_elim (rounds-contain k a b) (λ p. contains-trans rows a k b (rounds-contain k a k p.0) (rounds-contain k k b p.1)) (through-cases (R k) k a b t)

  row-rounds : (k : ℕ) {a b : ℕ} → Row rows a b → T (R k a b)
  unfolding rounds R
  row-rounds zero r = row-direct r
  row-rounds (suc k) {a} {b} r = through-old (R k) k a b (row-rounds k r)

  -- a row to a box below k, and then on
  before : (k a x b : ℕ) → Row rows a x → x < k → T (R k x b) → T (R k a b)
  unfolding rounds R
  before zero a x b r l t = absurd (not-suc-le-zero l)
  before (suc k) a x b r l t =
      ⊎_elim
      (λ q. through-new (R k) k a b (row-rounds k (subst (λ (z : ℕ). Row rows a z) q r))
      (⊎_elim (λ u. subst (λ (y : ℕ). T (R k y b)) q u) (λ p. p.1) (through-cases (R k) k x b t)))
      (λ l'. ⊎_elim (λ u. through-old (R k) k a b (before k a x b r l' u)) (λ p. through-new (R k) k a b (before k a x k r l' p.0) p.1) (through-cases (R k) k x b t))
      (eq-or-lt_of_le (le_of_suc-le-suc l))

  -- where the inner box of each row is below n
  module _ (n : ℕ) (below : (a b : ℕ) → Row rows a b → b < n) where
    chain-rounds : {a b : ℕ} → Chain rows a b → T (R n a b)
    chain-rounds (one r) = row-rounds n r
    chain-rounds (more {a = a} {b = x} {c = b} r h) = before n a x b r (below a x r) (chain-rounds h)

    pub rounds-all : (a b : ℕ) → rounds (direct rows) n a b ≡ contains rows a b
    unfolding R
    rounds-all a b = T-same (R n a b) (contains rows a b) (rounds-contain n a b) (λ t. chain-rounds (contains-chain rows a b t))
