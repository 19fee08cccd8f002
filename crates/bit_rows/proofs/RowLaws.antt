-- A table of sets written as rows of bits, row after row. Assumes nothing.
use mathlib.Core.Path.{◌≡◌, refl, ◌∙◌}
use mathlib.Core.List.{List}
use Prim.Native.Nat.{ℕ, ◌+◌, ◌*◌, ◌<◌, ◌≤◌}
use native.Mathlib.Decide.{ℕ_discrete}
use native.Mathlib.Omega.{arith}
use lib.ListN.{length, get_or}
use Rattle.base.specs.Buffers.{written}
use Rattle.bit_rows.specs.Grid.{grid, SameFrom}
use Rattle.bit_rows.proofs.GridLaws.{is-laid}
use Rattle.base.proofs.Index.{row_step}
use Rattle.boxsets.specs.Sets.{has}
use Rattle.bit_rows.specs.Bits.{row_width, row_bits}
use Rattle.bit_rows.specs.Steps.{set_byte, Laid}
use Rattle.bit_rows.proofs.NumberLaws.{width-most}
use Rattle.bit_rows.proofs.ByteLaws.{set-byte}

-- the rows before a are written
pub record Filled (n a : ℕ) (sets s t : List ℕ) : Type 0 where
  pub done : (b q : ℕ) → b < a → q < row_width n → get_or t (b * row_width n + q) 0 ≡ row_bits (has sets) b q
  pub same : SameFrom (n * row_width n) s t

pub filled_none : (n : ℕ) (sets s : List ℕ) → Filled n 0 sets s s
filled_none n sets s = record { done = λ b q lb lq. absurd (omega arith); same = record { len = refl; rest = λ p l. refl } }

pub filled_more : (n a : ℕ) (sets s t u : List ℕ) → n ≤ 256 → Filled n a sets s t
    → Laid (set_byte sets a) (a * row_width n) (row_width n) (n * row_width n) t u → Filled n (a + 1) sets s u
filled_more n a sets s t u few f l = record {
  done = λ b q lb lq. at b q lb lq (ℕ_discrete b a);
  same = record { len = l.len ∙ f.same.len; rest = λ p h. l.rest p h ∙ f.same.rest p h };
}
  where
    at : (b q : ℕ) → b < a + 1 → q < row_width n → Dec (b ≡ a) → get_or u (b * row_width n + q) 0 ≡ row_bits (has sets) b q
    at b q lb lq (yes e) = rw e (l.place q lq ∙ set-byte sets a q (omega (arith, width-most n few)))
    at b q lb lq (no e) =
        let c : b < a = omega arith in
        l.before (b * row_width n + q) (omega (arith, row_step (row_width n) b a c)) ∙ f.done b q c lq

pub filled-all : (n : ℕ) (sets s t : List ℕ) → n * row_width n ≤ length s → Filled n n sets s t
    → t ≡ written (grid (row_bits (has sets)) n (row_width n)) s
filled-all n sets s t room f = is-laid (row_bits (has sets)) n (row_width n) s t room (λ b q lb lq. f.done b q lb lq) f.same
