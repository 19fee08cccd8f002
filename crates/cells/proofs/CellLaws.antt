-- The rows of the matrix one after another, and what a row says of a file. Assumes nothing.
use mathlib.Core.Path.{◌≡◌, sym, ap, ◌∙◌}
use mathlib.Core.Logic.{inl, inr}
use mathlib.Core.Bool.{Bool}
use mathlib.Core.List.{List}
use Prim.Native.Nat.{ℕ, ◌+◌, ◌-◌, ◌<◌, ◌≤◌}
use native.Mathlib.Decide.{dec_lt}
use native.Mathlib.Omega.{arith}
use lib.Dec.{T}
use lib.ListN.{length, get_or}
use lib.Seq.{ext_get_or}
use Rattle.base.specs.Buffers.{build, written}
use Rattle.base.proofs.Tests.{T_true}
use Rattle.base.proofs.BufferLaws.{written-length, written_at, written-rest, build-length, build-at}
use Rattle.tables.specs.Rows.{Picture}
use Rattle.meaning.specs.Meaning.{answer, byte_of}
use Rattle.meaning.proofs.MatrixLaws.{byte-by}
use Rattle.user_rows.specs.Steps.{Sorts}
use Rattle.user_rows.specs.declared.Row.{Row}
use Rattle.cells.specs.Steps.{byte_in, Emitted}

-- ---- one row after another: h says what stands at each place

pub emitted-written : (g h : ℕ → ℕ) (at n : ℕ) (old mid new : List ℕ) → at + n ≤ length old → mid ≡ written (build h at) old
    → Emitted g at n mid new → ((j : ℕ) → j < n → g j ≡ h (at + j)) → new ≡ written (build h (at + n)) old
emitted-written g h at n old mid new room e m same =
    ext_get_or 0 new (written (build h (at + n)) old) (m.len ∙ mid-length ∙ sym last-length) (λ p l. go p (dec_lt p at) (dec_lt p (at + n)))
  where
    mid-length : length mid ≡ length old
    mid-length = ap length e ∙ written-length (build h at) old (rw build-length (omega arith))

    last-length : length (written (build h (at + n)) old) ≡ length old
    last-length = written-length (build h (at + n)) old (rw build-length room)

    built : (k p : ℕ) → p < k → get_or (written (build h k) old) p 0 ≡ h p
    built k p l = written_at (build h k) old p (rw build-length l) ∙ build-at h k p l

    rest : (k p : ℕ) → k ≤ p → get_or (written (build h k) old) p 0 ≡ get_or old p 0
    rest k p l = written-rest (build h k) old p (rw build-length l)

    go : (p : ℕ) → Dec (p < at) → Dec (p < at + n) → get_or new p 0 ≡ get_or (written (build h (at + n)) old) p 0
    go p (yes l) d = m.miss p (inl l) ∙ rw e (built at p l) ∙ sym (built (at + n) p (omega arith))
    go p (no a) (yes l) =
        let i : at + (p - at) ≡ p = omega arith in
        ap (λ (z : ℕ). get_or new z 0) (sym i)
        ∙ m.hit (p - at) (omega arith)
        ∙ same (p - at) (omega arith)
        ∙ ap h i
        ∙ sym (built (at + n) p l)
    go p (no a) (no b) = m.miss p (inr (omega arith)) ∙ rw e (rest at p (omega arith)) ∙ sym (rest (at + n) p (omega arith))

-- ---- what a row says of a file

module _ (pic : Picture) (m : ℕ) where
  pub byte-said : (u f : ℕ) (asked : ℕ → Bool) (row : Row) → Sorts pic m u asked row → T (asked f)
      → byte_in row f ≡ byte_of (answer pic m u f)
  unfolding byte_in
  byte-said u f asked row s t =
      rw (s.granted-are f, s.unclear-are f, T_true (asked f) t) (sym (byte-by (answer pic m u f)))
