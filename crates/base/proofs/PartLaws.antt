-- The part of a buffer that was written, as a caller lends it on. Assumes nothing.
use mathlib.Core.Path.{◌≡◌, sym, ap, ◌∙◌}
use mathlib.Core.List.{List}
use Prim.Native.Nat.{ℕ, ◌+◌, ◌<◌, ◌≤◌}
use native.Mathlib.Omega.{arith}
use lib.ListN.{length, take, drop, set}
use lib.Seq.{take-append_seam}
use Rattle.base.specs.Buffers.{build, written}
use Rattle.base.proofs.BufferLaws.{written_none, written-length, written-build}

-- so many places hold the new values
abbrev pub Wrote : List ℕ → List ℕ → ℕ → List ℕ → Type 0
Wrote new old count out = (count ≡ length new) × (out ≡ written new old)

module _ (new old : List ℕ) (count : ℕ) (out : List ℕ) (w : Wrote new old count out) where
  pub part-is : take count out ≡ new
  unfolding written
  part-is = rw (w.0, w.1) (take-append_seam new (drop (length new) old))

  pub part_length : count ≡ length (take count out)
  part_length = w.0 ∙ sym (ap length part-is)

  pub wrote-length : length new ≤ length old → length out ≡ length old
  wrote-length h = ap length w.1 ∙ written-length new old h

  pub part-within : length new ≤ length old → count ≤ length out
  part-within h = let l = wrote-length h in omega (arith, w.0)

-- a loop that writes g 0, g 1, .. over the old places: before it, and after p turns
pub built-none : (g : ℕ → ℕ) (old : List ℕ) → old ≡ written (build g 0) old
unfolding build
built-none g old = sym (written_none old)

module _ (g : ℕ → ℕ) (old : List ℕ) (p : ℕ) (out : List ℕ) (w : out ≡ written (build g p) old) where
  pub built-more : (v : ℕ) → p < length old → v ≡ g p → set out p v ≡ written (build g (p + 1)) old
  built-more v h e = rw (w, e) (written-build g p old h)
