-- Document 02, P1: the one regular packing: a good regular file is the packed file of the tables that it says, so that of a picture
-- the packed file is the only one. Assumes nothing.
use mathlib.Core.Path.{◌≡◌, refl, sym, ap, ap₂, ◌∙◌}
use mathlib.Core.Bool.{Bool, true, false, cond}
use mathlib.Core.List.{List, ◌++◌}
use mathlib.Core.Logic.{◌↔◌}
use Rattle.std.specs.Prelude.{None as none}
use Prim.Native.Nat.{ℕ, zero, suc, ◌+◌, ◌*◌, ◌<◌, ◌≤◌}
use native.Mathlib.Omega.{arith}
use native.Mathlib.Nat.{zero-add, add_assoc, mul-suc}
use borrow.Author.Tests.{eqb-true, eqb-false}
use lib.Dec.{eqb}
use lib.ListN.{length, get_or}
use Rattle.tables.specs.Rows.{Picture}
use Rattle.tables.specs.Faults.{table_fault}
use Rattle.blocks.specs.Blocks.{joined}
use Rattle.blocks.specs.Files.{block_count, block_at, file_fault, table_of, picture_of}
use Rattle.blocks.proofs.Made.{joined_same, made-of-blocks, good-whole}
use Rattle.blocks.proofs.MadeBlocks.{capacities}
use Rattle.blocks.proofs.GoodBlocks.{file-some}
use Rattle.packing.specs.Packed.{blocks_for, record_bytes, rows_of, blocks_of, first_of, kind_block, kind_bytes, packed}
use Rattle.packing.specs.Regular.{kind_at, count_at, Regular, RegularPacking}
use Rattle.packing.proofs.Chunks.{joined-add}
use Rattle.packing.proofs.Regular.{blocks-are, rows-by-kind, blocks-by-kind, first-by-kind}
use Rattle.packing.proofs.ReadBack.{packed-good, packed-picture}
use Rattle.packing.proofs.PackedRegular.{packed-regular}
use Rattle.packing.proofs.PackedBytes.{packed-bytes}
use Rattle.packing.proofs.Runs.{Runs}
use Rattle.packing.proofs.KindRuns.{Run, file-runs, run-good, run-some, blocks-same}
use Rattle.packing.proofs.SaidRows.{RunRows, box-rows, containment-rows, arrow-rows}

-- so many blocks, if all but the last are full and the last isn't empty
module _ (c rows : ℕ) (some : 0 < c) where
  blocks-none : rows ≡ 0 → blocks_for c rows ≡ 0
  blocks-none e = blocks-are c rows 0 some (omega arith) (omega arith)

  blocks-some : (last count : ℕ) → rows ≡ c * last + count → 0 < count → count ≤ c → blocks_for c rows ≡ suc last
  blocks-some last count e p q =
      let s : c * suc last ≡ c * last + c = rw mul-suc in
      blocks-are c rows (suc last) some (omega arith) (omega arith)

-- lists joined in three runs
three-runs : (f : ℕ → List ℕ) (a b c : ℕ)
    → joined f (a + b + c) ≡ joined (λ j. f (0 + j)) a ++ (joined (λ j. f (a + j)) b ++ joined (λ j. f (a + b + j)) c)
three-runs f a b c =
    ap (joined f) (add_assoc a b c) ∙ joined-add f a (b + c)
    ∙ ap₂ ◌++◌ (joined_same f (λ j. f (0 + j)) a (λ j h. ap f (sym (zero-add j))))
    (joined-add (λ k. f (a + k)) b c
    ∙ ap (λ (x : List ℕ). joined (λ j. f (a + j)) b ++ x)
    (joined_same (λ j. f (a + (b + j))) (λ j. f (a + b + j)) c (λ j h. ap f (sym (add_assoc a b j)))))

module _ (file : List ℕ) (small : (i : ℕ) → get_or file i 0 < 256) (good : file_fault file ≡ none) (regular : Regular file) where
  abbrev pic : Picture
  pic = picture_of file

  -- the runs of the three kinds
  run-1 : (r : Runs (kind_at file) (block_count file)) → Run file 1 0 r.a
  run-1 r =
      let e = r.all in
      record {
        rest = r.b + r.c;
        all = omega arith;
        own = λ j h. rw zero-add (r.ones j h);
        before = λ k h q. absurd (omega arith);
        after = λ j h q. let m = r.no_ones (0 + r.a + j) (omega arith) (omega arith) in omega arith;
      }

  run-2 : (r : Runs (kind_at file) (block_count file)) → Run file 2 r.a r.b
  run-2 r =
      let e = r.all in
      record {
        rest = r.c;
        all = omega arith;
        own = λ j h.
            let p = r.no_ones (r.a + j) (omega arith) (omega arith) in
            let q = r.no-threes (r.a + j) (omega arith) in
            omega arith;
        before = λ k h q. let m = r.ones k h in omega arith;
        after = λ j h q. let m = r.threes (r.a + r.b + j) (omega arith) (omega arith) in omega arith;
      }

  run-3 : (r : Runs (kind_at file) (block_count file)) → Run file 3 (r.a + r.b) r.c
  run-3 r =
      let e = r.all in
      record {
        rest = 0;
        all = omega arith;
        own = λ j h. r.threes (r.a + r.b + j) (omega arith) (omega arith);
        before = λ k h q. let m = r.no-threes k h in omega arith;
        after = λ j h q. absurd (omega arith);
      }

  -- there is a box block
  boxes-there : (r : Runs (kind_at file) (block_count file)) → 0 < r.a
  boxes-there r = go r.a refl
    where
      go : (x : ℕ) → r.a ≡ x → 0 < x
      go zero e =
          let p = r.no_ones 0 (omega arith) (file-some file good) in
          let q = regular.boxes-first in
          absurd (omega arith)
      go (suc x) e = omega arith

  -- the runs are as long as in the packing
  blocks-1 : (m : ℕ) → 0 < m → Run file 1 0 m → blocks_of pic 1 ≡ m
  blocks-1 zero p run = absurd (omega arith)
  blocks-1 (suc last) p run = rw (blocks-by-kind pic).0 (go (eqb (length (table_of 1 file)) 0) refl)
    where
      count : length (table_of 1 file) ≡ 500 * last + count_at file (0 + last)
      count = rw capacities.0 at ((box-rows file small good regular 0 (suc last) run).row_count last refl)

      filled : (x : ℕ) → last ≡ x → (length (table_of 1 file) ≡ 0 → ⊥) → 0 < count_at file (0 + last)
      filled zero e p = let c = count in omega arith
      filled (suc x) e p = run-some file good regular 1 0 (suc last) run last (omega arith) (omega arith)

      fits : count_at file (0 + last) ≤ 500
      fits = rw capacities.0 at (run-good file good regular 1 0 (suc last) run last (omega arith)).fits

      go : (t : Bool) → eqb (length (table_of 1 file)) 0 ≡ t → cond t 1 (blocks_for 500 (length (table_of 1 file))) ≡ suc last
      go true e =
          let z = eqb-true (length (table_of 1 file)) 0 e in
          let c = count in
          omega arith
      go false e =
          blocks-some 500 (length (table_of 1 file)) (omega arith) last (count_at file (0 + last)) count
          (filled last refl (eqb-false (length (table_of 1 file)) 0 e)) fits

  blocks-2 : (from m : ℕ) → 0 < from → Run file 2 from m → blocks_of pic 2 ≡ m
  blocks-2 from zero p run =
      rw (blocks-by-kind pic).1
      (blocks-none 125 _ (omega arith) ((containment-rows file small good regular from 0 run).no_rows refl))
  blocks-2 from (suc last) p run =
      rw (blocks-by-kind pic).1
      (blocks-some 125 _ (omega arith) last (count_at file (from + last))
      (rw capacities.1 at ((containment-rows file small good regular from (suc last) run).row_count last refl))
      (run-some file good regular 2 from (suc last) run last (omega arith) (omega arith))
      (rw capacities.1 at (run-good file good regular 2 from (suc last) run last (omega arith)).fits))

  blocks-3 : (from m : ℕ) → 0 < from → Run file 3 from m → blocks_of pic 3 ≡ m
  blocks-3 from zero p run =
      rw (blocks-by-kind pic).2
      (blocks-none 83 _ (omega arith) ((arrow-rows file small good regular from 0 run).no_rows refl))
  blocks-3 from (suc last) p run =
      rw (blocks-by-kind pic).2
      (blocks-some 83 _ (omega arith) last (count_at file (from + last))
      (rw capacities.2 at ((arrow-rows file small good regular from (suc last) run).row_count last refl))
      (run-some file good regular 3 from (suc last) run last (omega arith) (omega arith))
      (rw capacities.2 at (run-good file good regular 3 from (suc last) run last (omega arith)).fits))

  -- and so are their blocks
  bytes_same : (kind from m : ℕ) (run : Run file kind from m)
      → RunRows file kind from m (rows_of pic kind) (record_bytes pic kind)
      → blocks_of pic kind ≡ m → first_of pic kind ≡ from
      → kind_bytes pic kind ≡ joined (λ j. block_at file (from + j)) m
  unfolding kind_bytes
  bytes_same kind from m run r many first =
      ap (joined (kind_block pic kind)) many
      ∙ joined_same _ _ m (blocks-same file good regular kind from m run small pic r.row_count r.row-records first)

  packed-same : (r : Runs (kind_at file) (block_count file)) → packed pic ≡ file
  unfolding packed
  packed-same r =
      let by = rows-by-kind pic in
      let first = first-by-kind pic in
      let some = boxes-there r in
      let many-1 = blocks-1 r.a some (run-1 r) in
      let many-2 = blocks-2 r.a r.b some (run-2 r) in
      let many-3 = blocks-3 (r.a + r.b) r.c (omega arith) (run-3 r) in
      let rows-1 : RunRows file 1 0 r.a (rows_of pic 1) (record_bytes pic 1)
      = rw by.0 (box-rows file small good regular 0 r.a (run-1 r)) in
      let rows-2 : RunRows file 2 r.a r.b (rows_of pic 2) (record_bytes pic 2)
      = rw by.1 (containment-rows file small good regular r.a r.b (run-2 r)) in
      let rows-3 : RunRows file 3 (r.a + r.b) r.c (rows_of pic 3) (record_bytes pic 3)
      = rw by.2 (arrow-rows file small good regular (r.a + r.b) r.c (run-3 r)) in
      ap₂ ◌++◌ (bytes_same 1 0 r.a (run-1 r) rows-1 many-1 first.0)
      (ap₂ ◌++◌
      (bytes_same 2 r.a r.b (run-2 r) rows-2 many-2 (first.1 ∙ many-1))
      (bytes_same 3 (r.a + r.b) r.c (run-3 r) rows-3 many-3 (first.2 ∙ ap₂ ◌+◌ many-1 many-2)))
      ∙ sym (three-runs (block_at file) r.a r.b r.c)
      ∙ ap (joined (block_at file)) (sym r.all)
      ∙ made-of-blocks file (good-whole file good)

-- P1: the one regular packing: a good regular file of bytes is the packed file of the tables that it says
pub one-packing : (file : List ℕ) → ((i : ℕ) → get_or file i 0 < 256) → file_fault file ≡ none → Regular file
    → packed (picture_of file) ≡ file
one-packing file small good regular = packed-same file small good regular (file-runs file good)

-- so no other says them
pub only-packing : (pic : Picture) (file : List ℕ) → ((i : ℕ) → get_or file i 0 < 256) → file_fault file ≡ none → Regular file
    → picture_of file ≡ pic → file ≡ packed pic
only-packing pic file small good regular e = sym (one-packing file small good regular) ∙ ap packed e

-- P1, both ways: the regular packing of a picture that checks 1 to 7 pass is its packed file, and nothing else
pub regular-packing : (pic : Picture) → table_fault pic ≡ none
    → (file : List ℕ) → RegularPacking pic file ↔ (file ≡ packed pic)
regular-packing pic sound file = (
  λ p. only-packing pic file p.bytes p.good p.regular p.says,
  λ e. rw e (record {
    bytes = packed-bytes pic sound;
    good = packed-good pic sound;
    regular = packed-regular pic;
    says = packed-picture pic sound;
  }),
)
