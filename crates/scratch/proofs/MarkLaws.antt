-- The bytes of the rows' pairs, and the filled scratch. Assumes nothing.
use mathlib.Core.Path.{◌≡◌, sym, ap, subst, ◌∙◌}
use mathlib.Core.Bool.{◌&&◌, ◌||◌, cond}
use mathlib.Core.List.{List, ◌∷◌}
use Prim.Native.Nat.{ℕ, ◌+◌, ◌*◌, ◌-◌, ◌<◌, ◌≤◌}
use native.Mathlib.Decide.{ℕ_discrete}
use native.Mathlib.Omega.{arith}
use borrow.Author.Tests.{eq-eqb}
use lib.Dec.{T, eqb, eqb→eq}
use lib.ListN.{length, get_or, set, drop, length-set}
use lib.Seq.{get_or-set_same, get_or-set_other}
use Rattle.base.specs.Steps.{bit}
use Rattle.base.proofs.Index.{in_table, same_row, same-col}
use Rattle.base.proofs.Tests.{and_T, not-false}
use Rattle.tables.proofs.RowLaws.{rows-from}
use Rattle.boxsets.specs.Sets.{has}
use Rattle.containment.specs.Contains.{direct, contains}
use Rattle.containment.specs.Steps.{RowsBelow, Both}
use Rattle.scratch.specs.Steps.{filled, Bytes, Cells, over, SameFrom, Square}
use Rattle.containment.proofs.RowBoxes.{RowBoxes}
use Rattle.containment.proofs.ContainsLaws.{direct-more}
use Rattle.containment.proofs.ClosureLaws.{contains-below}
use Rattle.scratch.proofs.DrawnLaws.{rows-drawn}
use Rattle.scratch.proofs.ScratchLaws.{is-filled}

-- ---- mark_direct

-- the byte of boxes o and i
mark-byte : (n o i v : ℕ) (s rows : List ℕ) (g : ℕ → ℕ → ℕ) → o < n → i < n → n * n ≤ length s
    → Bytes n (over rows v g) s → Bytes n (over (o ∷ i ∷ rows) v g) (set s (o * n + i) v)
unfolding over
mark-byte n o i v s rows g ho hi room h a b la lb = rw direct-more (go (ℕ_discrete (o * n + i) (a * n + b)))
  where
    go : Dec (o * n + i ≡ a * n + b) → get_or (set s (o * n + i) v) (a * n + b) 0 ≡ cond (eqb o a && eqb i b || direct rows a b) v (g a b)
    go (yes e) =
        rw (eq-eqb o a (same_row n o i a b hi lb e), eq-eqb i b (same-col n o i a b hi lb e), ← e)
        (get_or-set_same s (o * n + i) v 0 (omega (arith, in_table n n o i ho hi)))
    go (no e) =
        rw (not-false (eqb o a && eqb i b) (λ t. let p = and_T (eqb o a) (eqb i b) t in e (rw (eqb→eq o a p.0, eqb→eq i b p.1))))
        (get_or-set_other s (o * n + i) (a * n + b) v 0 (λ q. e (sym q)) ∙ h a b la lb)

-- t is s with v at the rows from k on
abbrev pub Marked : ℕ → ℕ → List ℕ → ℕ → List ℕ → List ℕ → Type 0
Marked n v rows k s t = ((g : ℕ → ℕ → ℕ) → Bytes n g s → Bytes n (over (drop (2 * k) rows) v g) t) × SameFrom (n * n) s t

-- row k - 1
pub mark-turn : {n k o i : ℕ} (v : ℕ) {rows : List ℕ} (s t : List ℕ) → RowBoxes n rows k o i → n * n ≤ length t
    → Marked n v rows k s t → Marked n v rows (k - 1) s (set t (o * n + i) v)
mark-turn {n} {k} {o} {i} v {rows} s t r room m = (
  λ g z.
      rw (rows-from rows k r.above r.most, ← r.o_is, ← r.i-is)
      (mark-byte n o i v t (drop (2 * k) rows) g r.o-below r.i-below room (m.0 g z)),
  record {
    len = length-set t (o * n + i) v ∙ m.1.len;
    rest = λ p l. get_or-set_other t (o * n + i) p v 0 (omega (arith, in_table n n o i r.o-below r.i-below)) ∙ m.1.rest p l;
  },
)

-- ---- what a box contains is among the boxes of the rows

pub contains-square : (n : ℕ) (rows t : List ℕ) → RowsBelow n rows → Both n (contains rows) t → Square n t
contains-square n rows t below s a b l h = contains-below n rows below a b (subst T (s.down a b l) h)

-- ---- spread by the sets, then marked

pub fill_is : (n : ℕ) (rows sets s t u : List ℕ) → n * n ≤ length s → Both n (contains rows) sets
    → Cells n (has sets) t → SameFrom (n * n) s t → Marked n 2 rows 0 t u → u ≡ filled n rows s
fill_is n rows sets s t u room both cells same marked =
    is-filled n rows s u room
    (λ a b la lb.
    marked.0 (λ a b. bit (contains rows a b)) (λ a b la lb. cells a b la lb ∙ ap bit (both.down a b la)) a b la lb ∙ rows-drawn rows a b)
    (record { len = marked.1.len ∙ same.len; rest = λ p l. marked.1.rest p l ∙ same.rest p l })
