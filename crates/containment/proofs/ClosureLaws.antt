-- The closure of the rows, as the layers above read it, and how it is filled. Assumes nothing.
use mathlib.Core.Path.{◌≡◌, sym, ap, ◌∙◌}
use mathlib.Core.Logic.{inl, inr}
use mathlib.Core.Bool.{Bool}
use mathlib.Core.List.{List}
use Prim.Native.Nat.{ℕ, suc, ◌+◌, ◌*◌, ◌<◌, ◌≤◌}
use native.Mathlib.Omega.{arith}
use lib.Dec.{T}
use lib.ListN.{length}
use Rattle.base.specs.Search.{given}
use Rattle.base.proofs.SearchLaws.{first-same}
use Rattle.tables.specs.Rows.{row_count, row_at}
use Rattle.tables.specs.declared.Refusal.TheVariants.{InItself}
use Rattle.tables.specs.declared.Refusal.{Refusal}
use Rattle.tables.specs.Steps.{SoundRows}
use Rattle.boxsets.specs.Sets.{is_in, set_at, has}
use Rattle.boxsets.proofs.TableLaws.{has_in}
use Rattle.containment.specs.Contains.{Row, here, later, Chain, one, more, direct, contains, around, loop_fault}
use Rattle.containment.specs.Steps.{RowsBelow, Both, Closure, Turns, rounds, selves, own_fault}
use Rattle.containment.proofs.ContainsLaws.{around-test, contains-chain}
use Rattle.containment.proofs.Rounds.{rounds-all}
use Rattle.containment.proofs.ClosingLaws.{both-same}
use Rattle.containment.proofs.SelvesLaws.{selves-all}

-- ---- its sets

-- set a: what a is or contains
pub within_in : (n : ℕ) (rows t : List ℕ) → Closure n rows t → (a b : ℕ) → a < n → is_in (set_at t a) b ≡ around rows a b
within_in n rows t s a b l = sym (has_in t a b) ∙ s.down a b l

-- ---- what a box contains is among the boxes of the rows

-- the inner box of a row is below what those of each place in the table are below
row_below : {rows : List ℕ} {a b : ℕ} (n : ℕ) → Row rows a b → ((k : ℕ) → k < row_count rows → (row_at rows k).inner < n) → b < n
row_below n here h = h 0 (omega arith)
row_below n (later {x = x} {y = y} {rows = rows} r) h =
    row_below n r (λ k l. let e : 2 * (k + 1) + 1 ≡ suc (suc (2 * k + 1)) = omega arith in rw e at (h (k + 1) (omega arith)))

chain-below : {rows : List ℕ} {a b : ℕ} (n : ℕ) → Chain rows a b → ((k : ℕ) → k < row_count rows → (row_at rows k).inner < n) → b < n
chain-below n (one r) h = row_below n r h
chain-below n (more r c) h = chain-below n c h

pub contains-below : (n : ℕ) (rows : List ℕ) → RowsBelow n rows → (a b : ℕ) → T (contains rows a b) → b < n
contains-below n rows below a b t = chain-below n (contains-chain rows a b t) below.inner_below

-- ---- how it is filled

pub both_fewer : (m n : ℕ) (f : ℕ → ℕ → Bool) (t : List ℕ) → n ≤ m → Both m f t → Both n f t
both_fewer m n f t h s = record { len = s.len; down = λ a b l. s.down a b (omega arith); up = λ a b l. s.up a b (omega arith) }

pub sound-below : (boxes rows : List ℕ) (n : ℕ) → length boxes ≤ n → SoundRows boxes rows → RowsBelow n rows
sound-below boxes rows n h s = record {
  whole = s.whole;
  outer_below = λ k l. omega (arith, s.outer-there k l);
  inner_below = λ k l. omega (arith, s.inner-there k l);
}

-- marked, and closed by n rounds
pub closed-both : (n : ℕ) (rows t u : List ℕ) → RowsBelow n rows → Both 256 (direct rows) t → Turns (λ f. rounds f n) t u → Both 256 (contains rows) u
closed-both n rows t u below s h =
    both-same 256 (rounds (direct rows) n) (contains rows) u (rounds-all rows n (λ x y r. row_below n r below.inner_below))
    (h.says (direct rows) s)

-- check 10 sees which boxes contain themselves
pub own-loops : (boxes rows t : List ℕ) → length boxes ≤ 256 → Both 256 (contains rows) t → own_fault (length boxes) t ≡ loop_fault boxes rows
unfolding own_fault loop_fault
own-loops boxes rows t h s =
    first-same (λ b. given (has t b b) (InItself b)) (λ b. given (contains rows b b) (InItself b)) (length boxes)
    (λ b l. ap (λ (z : Bool). given {A = Refusal} z (InItself b)) (s.down b b (omega arith)))

-- each box added to its own sets
pub closure-is : (n : ℕ) (rows t u : List ℕ) → n ≤ 256 → Both 256 (contains rows) t → Turns (λ f. selves f n) t u → Closure n rows u
closure-is n rows t u h s g =
    let w = g.says (contains rows) s in
    record {
      len = w.len;
      down = λ a b l. w.down a b (omega arith) ∙ selves-all (contains rows) n a b (inl l) ∙ sym (around-test rows a b);
      up = λ a b l. w.up a b (omega arith) ∙ selves-all (contains rows) n a b (inr l) ∙ sym (around-test rows a b);
    }
