-- Check 12 and the granted files, user by user. Assumes nothing.
use mathlib.Core.Path.{◌≡◌, sym, ap, ◌∙◌}
use mathlib.Core.Bool.{Bool, true, ◌&&◌}
use mathlib.Core.List.{List}
use Prim.Native.Nat.{ℕ, ◌+◌, ◌<◌}
use native.Mathlib.Omega.{arith}
use borrow.Author.Tests.{eq-eqb, ne_eqb}
use lib.Dec.{eqb}
use lib.ListN.{length, get_or}
use Rattle.base.specs.Buffers.{zeros}
use Rattle.base.proofs.AnyLaws.{any-is}
use Rattle.base.proofs.SearchLaws.{some-none}
use Rattle.base.proofs.Tests.{T-eqb, T_true}
use Rattle.tables.specs.Rows.{Picture, user, file}
use Rattle.tables.specs.Atoms.{atom}
use Rattle.tables.specs.Refusals.{verdict_of}
use Rattle.std.specs.Prelude.{Ok, Err}
use Rattle.tables.specs.declared.Refusal.TheVariants.{UnclearPair}
use Rattle.tables.proofs.Verdicts.{refused}
use Rattle.boxsets.specs.Sets.{is_in, low, set_at, Put, table_words}
use Rattle.boxsets.specs.declared.Set.{Set}
use Rattle.boxsets.proofs.TableLaws.{has_in}
use Rattle.meaning.specs.Pairs.{users, unclear_fault}
use Rattle.meaning.proofs.RowPairs.{rows_start}
use Rattle.user_rows.specs.Steps.{Ready, Sorts}
use Rattle.user_rows.specs.declared.Row.{Row}
use Rattle.user_kinds.proofs.AtomLaws.{listed_at}
use Rattle.user_kinds.specs.Steps.{Alike}
use Rattle.user_kinds.proofs.RowLaws.{unclear, Clear, clear-more, clear-found, clear-alike, clear-end}
use Rattle.list_meaning.specs.Steps.{granted_to}
use Rattle.list_sets.specs.Steps.{Check12}
use Rattle.list_sets.proofs.LeftLaws.{one_of, Filled, filled_none, filled_more, filled-all}

-- the granted files of a user
abbrev granting : (pic : Picture) (m u f : ℕ) → Bool
granting pic m u f = atom pic.boxes pic.rows file f && granted_to pic m u f

-- no pair of the first i users is unclear, and each of them has her granted files
pub record Sorting (pic : Picture) (m : ℕ) (us : List ℕ) (i : ℕ) (granted : List ℕ) : Type 0 where
  pub clear : Clear pic m i
  pub filled : Filled us (granting pic m) i granted

pub sorting-none : {pic : Picture} {m : ℕ} {us granted : List ℕ} → granted ≡ zeros table_words → Sorting pic m us 0 granted
sorting-none {pic} {m} e = record { clear = rows_start pic (unclear pic m); filled = filled_none e }

module _ {pic : Picture} {m : ℕ} {closure arrows us : List ℕ} {files : Set} {i : ℕ} {granted : List ℕ} (ready : Ready pic closure arrows us files)
    (s : Sorting pic m us i granted) where
  -- the user at place i, and her row
  module _ {u : ℕ} {row : Row} (is : u ≡ get_or us i 0) (l : i < length us) (sorts : u < length pic.boxes → Sorts pic m u (is_in files) row) where
    at : (u ≡ get_or (users pic) i 0) × (i < length (users pic)) × (u < length pic.boxes)
    at = listed_at pic.boxes pic.rows user us ready.users-are i u l is

    pub sorting-more : {granted' : List ℕ} → low row.unclear ≡ 256 → Put granted u row.granted granted'
        → Sorting pic m us (i + 1) granted'
    sorting-more e put = record {
      clear = clear-more pic m i u files row at.0 ready.files-are (sorts at.2) s.clear (eq-eqb _ 256 e);
      filled = filled_more is (λ f. (sorts at.2).granted-are f ∙ rw (ready.files-are f)) put s.filled;
    }

    pub sorting-found : {f : ℕ} → f < 256 → f ≡ low row.unclear → Check12 pic m (Err (UnclearPair m u f)) granted
    sorting-found {f} few e =
        let found = clear-found pic m i u files row at.0 ready.files-are (sorts at.2) s.clear f at.1 e (ne_eqb _ 256 (λ z. omega arith)) in
        record { said = found; says = λ z. absurd (some-none (sym (refused (unclear_fault pic m) _ (sym found)) ∙ z)) }

  -- the user at place j before has the same answers, and so the same granted files
  pub sorting-alike : {j u v : ℕ} {granted' : List ℕ} → j < i → Alike pic m (get_or us j 0) (get_or us i 0) → u ≡ get_or us i 0 → v ≡ get_or us j 0
      → Put granted u (set_at granted v) granted' → Sorting pic m us (i + 1) granted'
  sorting-alike {j} {u} {v} l same is was put = record {
    clear = clear-alike pic m i j l (rw ready.users-are at same) s.clear;
    filled = filled_more is (λ f. sym (has_in granted v f) ∙ s.filled.each v f ∙ rw (known, was, is, same f)) put s.filled;
  }
    where
      known : one_of us i v ≡ true
      known = T_true (one_of us i v) (any-is (λ k. eqb (get_or us k 0) v) i j l (T-eqb (sym was)))

  pub sorting-end : i ≡ length us → Check12 pic m (Ok tt) granted
  sorting-end e = record {
    said = sym (ap verdict_of (clear-end pic m (rw (e, ready.users-are) at s.clear)));
    says = λ z. filled-all pic us (granted_to pic m) granted ready.users-are (rw e at s.filled);
  }
