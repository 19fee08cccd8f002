-- The first unclear pair, by the rows of the users one after another. Assumes nothing.
use mathlib.Core.Path.{◌≡◌, sym, ap, subst, ◌∙◌}
use mathlib.Core.Bool.{Bool, true, false, ◌&&◌}
use Rattle.std.specs.Prelude.{Err, None as none}
use Prim.Native.Nat.{ℕ, ◌+◌, ◌<◌}
use lib.Dec.{T, eqb}
use lib.ListN.{length, get_or}
use Rattle.base.proofs.Tests.{and_T, T_and, false-not}
use Rattle.tables.specs.Rows.{Picture, file}
use Rattle.tables.specs.Atoms.{atom}
use Rattle.tables.specs.Refusals.{verdict_of}
use Rattle.tables.specs.declared.Refusal.TheVariants.{UnclearPair}
use Rattle.boxsets.specs.Sets.{is_in, low}
use Rattle.boxsets.specs.declared.Set.{Set}
use Rattle.boxsets.proofs.LowLaws.{low-least}
use Rattle.boxsets.proofs.WalkLaws.{empty-none, some-low}
use Rattle.meaning.specs.Meaning.{answer, is_unclear}
use Rattle.meaning.specs.Pairs.{users, unclear_fault}
use Rattle.meaning.specs.declared.Entry.{Entry}
use Rattle.meaning.proofs.MatrixLaws.{unclear-first}
use Rattle.meaning.proofs.RowPairs.{RowsClear, rows_more, rows-found, rows_end}
use Rattle.user_rows.specs.Steps.{Sorts}
use Rattle.user_rows.specs.declared.Row.{Row}
use Rattle.user_kinds.specs.Steps.{Alike}

module _ (pic : Picture) (m : ℕ) where
  -- the pair is unclear
  abbrev pub unclear : ℕ → ℕ → Bool
  unclear u f = is_unclear (answer pic m u f)

  -- no file of the first i users is
  abbrev pub Clear : ℕ → Type 0
  Clear i = RowsClear pic unclear i

  module _ (i u : ℕ) (files : Set) (row : Row) (is : u ≡ get_or (users pic) i 0)
      (are : (f : ℕ) → is_in files f ≡ atom pic.boxes pic.rows file f) (sorts : Sorts pic m u (is_in files) row) (before : Clear i) where
    found_in : (f : ℕ) → is_in row.unclear f ≡ (atom pic.boxes pic.rows file f && unclear (get_or (users pic) i 0) f)
    found_in f = sorts.unclear-are f ∙ rw (are f, is)

    pub clear-more : eqb (low row.unclear) 256 ≡ true → Clear (i + 1)
    clear-more e =
        rows_more pic unclear i before
        (λ g a t. false-not (is_in row.unclear g) (empty-none row.unclear e g)
        (subst T (sym (found_in g)) (T_and (atom pic.boxes pic.rows file g) (unclear (get_or (users pic) i 0) g) a t)))

    pub clear-found : (f : ℕ) → i < length (users pic) → f ≡ low row.unclear → eqb (low row.unclear) 256 ≡ false
        → Err (UnclearPair m u f) ≡ verdict_of (unclear_fault pic m)
    clear-found f l e n =
        let there = subst T (found_in (low row.unclear)) (some-low row.unclear n).1 in
        let both = and_T (atom pic.boxes pic.rows file (low row.unclear)) (unclear (get_or (users pic) i 0) (low row.unclear)) there in
        rw (is, e, unclear-first)
        (sym (ap verdict_of (rows-found pic unclear (UnclearPair m) i l before (low row.unclear) both.0 both.1
        (λ g b a t. low-least row.unclear g b
        (subst T (sym (found_in g)) (T_and (atom pic.boxes pic.rows file g) (unclear (get_or (users pic) i 0) g) a t))))))

  -- a user before has the same answers
  pub clear-alike : (i j : ℕ) → j < i → Alike pic m (get_or (users pic) j 0) (get_or (users pic) i 0) → Clear i → Clear (i + 1)
  clear-alike i j l same before =
      rows_more pic unclear i before (λ g a t. before j l g a (subst (λ (e : Entry). T (is_unclear e)) (sym (same g)) t))

  pub clear-end : Clear (length (users pic)) → unclear_fault pic m ≡ none
  clear-end c = unclear-first pic m ∙ rows_end pic unclear (UnclearPair m) c
