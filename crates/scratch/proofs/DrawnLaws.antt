-- The byte of two boxes: what it says in rows and chains, and how a pass over the rows makes it. Assumes nothing.
use mathlib.Core.Path.{◌≡◌, refl, sym, subst}
use mathlib.Core.Logic.{◌↔◌}
use mathlib.Core.Bool.{Bool, true, false, not, cond}
use mathlib.Core.List.{List}
use Prim.Native.Nat.{ℕ, ◌*◌, ◌/◌, ◌%◌}
use lib.Dec.{T, eqb}
use Rattle.base.specs.Steps.{bit}
use Rattle.containment.specs.Contains.{Row, Chain, one, direct, contains}
use Rattle.scratch.specs.Scratch.{Drawn, directly, through-others, otherwise, drawn, scratch_bytes}
use Rattle.scratch.specs.Steps.{filled, over}
use Rattle.base.proofs.Bits.{bit_is, bit_test}
use Rattle.base.proofs.Tests.{T?, T_true, not-false}
use Rattle.base.proofs.BufferLaws.{build-same}
use Rattle.containment.proofs.ContainsLaws.{direct-row, row-direct, contains-chain, chain-contains, row-contains, same-contains, same-direct}

module _ (rows : List ℕ) (a b : ℕ) where
  -- "A pair joined directly and through others is 2": a row is enough, whatever chains there are
  pub row-drawn : Row rows a b → drawn rows a b ≡ 2
  unfolding drawn
  row-drawn r = rw (T_true (direct rows a b) (row-direct r))

  chain-drawn : Chain rows a b → (Row rows a b → ⊥) → drawn rows a b ≡ 1
  unfolding drawn
  chain-drawn h n =
      rw (not-false (direct rows a b) (λ t. n (direct-row rows a b t)), T_true (contains rows a b) (chain-contains h)) (bit_is true)

  none-drawn : (Chain rows a b → ⊥) → drawn rows a b ≡ 0
  unfolding drawn
  none-drawn n =
      rw (not-false (direct rows a b) (λ t. n (one (direct-row rows a b t))), not-false (contains rows a b) (λ t. n (contains-chain rows a b t)))
      (bit_is false)

  the-drawn : Drawn rows a b (drawn rows a b)
  the-drawn = go (T? (direct rows a b)) (T? (contains rows a b))
    where
      go : Dec (T (direct rows a b)) → Dec (T (contains rows a b)) → Drawn rows a b (drawn rows a b)
      go (yes d) c = let r = direct-row rows a b d in subst (Drawn rows a b) (sym (row-drawn r)) (directly r)
      go (no d) (yes c) =
          let h = contains-chain rows a b c in
          let n : Row rows a b → ⊥ = λ r. d (row-direct r) in
          subst (Drawn rows a b) (sym (chain-drawn h n)) (through-others h n)
      go (no d) (no c) =
          let n : Chain rows a b → ⊥ = λ h. c (chain-contains h) in
          subst (Drawn rows a b) (sym (none-drawn n)) (otherwise n)

  only-drawn : {v : ℕ} → Drawn rows a b v → drawn rows a b ≡ v
  only-drawn (directly r) = row-drawn r
  only-drawn (through-others h n) = chain-drawn h n
  only-drawn (otherwise n) = none-drawn n

  -- "2 where a row has a as outer box and b as inner, 1 where a contains b only through others, 0 otherwise"
  pub drawn-iff : (v : ℕ) → (drawn rows a b ≡ v) ↔ Drawn rows a b v
  drawn-iff v = (λ e. subst (Drawn rows a b) e the-drawn, only-drawn)

  -- a byte that is not 0 says that a contains b: readers of the scratch go by this
  pub drawn-test : not (eqb (drawn rows a b) 0) ≡ contains rows a b
  unfolding drawn
  drawn-test = go (direct rows a b) (λ t. row-contains (direct-row rows a b t))
    where
      go : (d : Bool) → (T d → T (contains rows a b)) → not (eqb (cond d 2 (bit (contains rows a b))) 0) ≡ contains rows a b
      go true h = sym (T_true (contains rows a b) (h tt))
      go false h = bit_test (contains rows a b)

  -- 2 at the rows, once the bytes say what contains what
  pub rows-drawn : over rows 2 (λ a b. bit (contains rows a b)) a b ≡ drawn rows a b
  unfolding over drawn
  rows-drawn = refl

-- "A repeated pair changes nothing": tables with the same rows fill the scratch alike
module _ (rows new : List ℕ) (same : (a b : ℕ) → Row rows a b ↔ Row new a b) where
  same-drawn : (a b : ℕ) → drawn rows a b ≡ drawn new a b
  unfolding drawn
  same-drawn a b = rw (same-direct rows new same a b, same-contains rows new same a b)

  pub same-filled : (n : ℕ) (s : List ℕ) → filled n rows s ≡ filled n new s
  unfolding scratch_bytes
  same-filled n s =
      rw (build-same (λ p. drawn rows (p / n) (p % n)) (λ p. drawn new (p / n) (p % n)) (n * n) (λ p l. same-drawn (p / n) (p % n)))
