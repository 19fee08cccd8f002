-- Rows of places. Assumes nothing.
use mathlib.Core.Path.{◌≡◌, sym, subst, ◌∙◌}
use mathlib.Core.List.{List}
use Prim.Native.Nat.{ℕ, zero, suc, ◌+◌, ◌*◌, ◌/◌, ◌%◌, ◌<◌, ◌≤◌}
use native.Mathlib.Decide.{dec_lt}
use native.Mathlib.Nat.{div-lt_iff_lt-mul, mod-lt, not-suc-le-zero, mul-zero}
use native.Mathlib.Omega.{arith}
use lib.ListN.{length, get_or}
use lib.Seq.{ext_get_or}
use Rattle.base.specs.Buffers.{written, zeros}
use Rattle.bit_rows.specs.Grid.{grid, InRows, SameFrom}
use Rattle.base.proofs.BufferLaws.{build-length, build-at, build-same, written-length, written_at, written-rest, zeros-length}
use Rattle.base.proofs.Index.{in_table, at-div, at-mod, place}

-- a place below m × w lies in a row that there is
pub in_row : (m w p : ℕ) → p < m * w → (p / w < m) × (p % w < w)
in_row m zero p l = absurd (not-suc-le-zero (subst (λ (k : ℕ). p < k) (mul-zero m) l))
in_row m (suc w) p l = let pos : 0 < suc w = omega arith in ((div-lt_iff_lt-mul pos).1 l, mod-lt p pos)

module _ (g : ℕ → ℕ → ℕ) (m w : ℕ) where
  pub grid-length : length (grid g m w) ≡ m * w
  unfolding grid
  grid-length = build-length (λ p. g (p / w) (p % w)) (m * w)

  grid-place : (p : ℕ) → p < m * w → get_or (grid g m w) p 0 ≡ g (p / w) (p % w)
  unfolding grid
  grid-place p l = build-at (λ p. g (p / w) (p % w)) (m * w) p l

  pub grid-at : InRows m w g (grid g m w)
  grid-at a q la lq = grid-place (a * w + q) (in_table m w a q la lq) ∙ rw (at-div w a q lq, at-mod w a q lq)

  -- rows of the same numbers are the same
  pub grid-same : (h : ℕ → ℕ → ℕ) → ((a q : ℕ) → a < m → g a q ≡ h a q) → grid g m w ≡ grid h m w
  unfolding grid
  grid-same h same =
      build-same (λ p. g (p / w) (p % w)) (λ p. h (p / w) (p % w)) (m * w) (λ p l. same (p / w) (p % w) (in_row m w p l).0)

  -- ---- written over what was lent

  module _ (s : List ℕ) where
    pub laid-at : InRows m w g (written (grid g m w) s)
    laid-at a q la lq =
        written_at (grid g m w) s (a * w + q) (rw grid-length (in_table m w a q la lq)) ∙ grid-at a q la lq

    -- places that hold it, and are as they were beyond the rows
    pub is-laid : (t : List ℕ) → m * w ≤ length s → InRows m w g t → SameFrom (m * w) s t → t ≡ written (grid g m w) s
    is-laid t room h same =
        ext_get_or 0 t (written (grid g m w) s) (same.len ∙ sym (written-length (grid g m w) s (rw grid-length room)))
        (λ p l. at p (dec_lt p (m * w)))
      where
        at : (p : ℕ) → Dec (p < m * w) → get_or t p 0 ≡ get_or (written (grid g m w) s) p 0
        at p (yes l) =
            let i = in_row m w p l in
            subst (λ (k : ℕ). get_or t k 0 ≡ g (p / w) (p % w)) (place w p) (h (p / w) (p % w) i.0 i.1)
            ∙ sym (written_at (grid g m w) s p (rw grid-length l) ∙ grid-place p l)
        at p (no l) = same.rest p (omega arith) ∙ sym (written-rest (grid g m w) s p (rw grid-length (omega arith)))

-- ---- the first places cleared

-- n places are cleared, and no more than that
pub cleared-rest : (n : ℕ) (s t : List ℕ) → n ≤ length s → t ≡ written (zeros n) s → SameFrom n s t
cleared-rest n s t room clear = rw clear (record {
  len = written-length (zeros n) s (rw zeros-length room);
  rest = λ p l. written-rest (zeros n) s p (rw zeros-length l);
})
