-- A loop that counts the numbers at which a test holds. Assumes nothing.
use mathlib.Core.Path.{◌≡◌}
use mathlib.Core.Bool.{Bool, true, false}
use Prim.Native.Nat.{ℕ, ◌+◌}
use lib.ListN.{length, length-append}
use Rattle.base.specs.Search.{select}
use Rattle.base.proofs.BufferLaws.{select-zero, select_yes, select_no}

module _ (t : ℕ → Bool) where
  pub select-none : 0 ≡ length (select t 0)
  select-none = rw (select-zero t)

  pub select-one : (n count : ℕ) → t n ≡ true → count ≡ length (select t n) → count + 1 ≡ length (select t (n + 1))
  select-one n count e c = rw (select_yes t n e, length-append, c)

  pub select-skip : (n count : ℕ) → t n ≡ false → count ≡ length (select t n) → count ≡ length (select t (n + 1))
  select-skip n count e c = rw (select_no t n e) c
