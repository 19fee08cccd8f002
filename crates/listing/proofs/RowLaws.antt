-- One row: its lines one after the other, and its first unclear file as the lowest number of a set. Assumes nothing.
use mathlib.Core.Path.{◌≡◌, refl, sym, ap, subst, ◌∙◌}
use mathlib.Core.Bool.{Bool, ◌&&◌}
use mathlib.Core.List.{List}
use mathlib.Core.Logic.{⊎_elim}
use Rattle.std.specs.Prelude.{Option}
use Prim.Native.Nat.{ℕ, ◌+◌, ◌-◌, ◌*◌, ◌<◌}
use native.Mathlib.Omega.{arith}
use native.Mathlib.Nat.{eq-or-lt_of_le, eq-zero-or-pos}
use borrow.Author.Tests.{lt-ltb, le-ltb}
use lib.Dec.{T, ltb}
use lib.ListN.{length, get_or}
use Rattle.base.specs.Search.{first, given}
use Rattle.base.proofs.Index.{next_row}
use Rattle.base.proofs.SearchLaws.{first-is, first-nothing, given-true, given-false}
use Rattle.base.proofs.Tests.{T_and, and_T, T_true, not-false, false-not}
use Rattle.std.specs.Prelude.{Result}
use Rattle.tables.specs.Rows.{Picture, file}
use Rattle.tables.specs.Refusals.{verdict_of}
use Rattle.tables.specs.declared.Refusal.TheVariants.{UnclearPair}
use Rattle.tables.specs.declared.Refusal.{Refusal}
use Rattle.tables.proofs.AtomPlaces.{atoms-before, atoms-same}
use Rattle.meaning.specs.Meaning.{answer, is_unclear}
use Rattle.meaning.specs.Pairs.{files}
use Rattle.meaning.specs.declared.Entry.{Entry}
use Rattle.user_rows.specs.Steps.{Sorts}
use Rattle.user_rows.specs.declared.Row.{Row}
use Rattle.boxsets.specs.Sets.{is_in, low, among}
use Rattle.boxsets.specs.declared.Set.{Set}
use Rattle.boxsets.proofs.AmongLaws.{among-is, among-found}
use Rattle.boxsets.proofs.LowLaws.{low-in, low-least, none_in}
use Rattle.boxsets.proofs.WalkLaws.{low-most}
use Rattle.blocks.specs.Blocks.{joined}
use Rattle.blocks.proofs.JoinedLaws.{joined-none, joined-more}
use Rattle.lines.specs.Lines.{line_text}
use Rattle.lines.specs.Steps.{Put}
use Rattle.listing.specs.PairRows.{user_line, user_unclear, row_text, row_unclear}
use Rattle.lines.specs.declared.Line.TheVariants.{Pair}
use Rattle.lines.proofs.PutLaws.{chain}

-- ---- lines

module _ {old : List ℕ} {at : ℕ} (f : ℕ → List ℕ) where
  pub row-none : Put old at (joined f 0) (0 * 111) old at
  row-none = rw (joined-none f) (record { placed = refl; ends = omega arith; short = omega arith; same = refl })

  pub row_more : {out new : List ℕ} {i x y : ℕ} → Put old at (joined f i) (i * 111) out x → Put out x (f i) 111 new y
      → Put old at (joined f (i + 1)) ((i + 1) * 111) new y
  row_more {out} {new} {i} p q = rw (joined-more f i, next_row 111 i) (chain p q)

-- one line more, whose answer is the pair's
pub line-more : (pic : Picture) (m u : ℕ) (fs : List ℕ) (i : ℕ) {old out new : List ℕ} {at x y : ℕ} (v f : ℕ) (e : Entry)
    → Put old at (row_text pic m u fs i) (i * 111) out x → e ≡ answer pic m v f → v ≡ u → f ≡ get_or fs i 0
    → Put out x (line_text (Pair m u (get_or fs i 0) e)) 111 new y
    → Put old at (row_text pic m u fs (i + 1)) ((i + 1) * 111) new y
unfolding user_line
line-more pic m u fs i v f e p ea ev ef q =
    row_more (λ c. line_text (user_line pic m u (get_or fs c 0))) p (rw (ea, ev, ef) at q)

-- ---- the first unclear file

-- the files rise
files-rise : (pic : Picture) (i j : ℕ) → i < j → j < length (files pic) → get_or (files pic) i 0 < get_or (files pic) j 0
files-rise pic i j l h =
    let a = get_or (files pic) i 0 in
    let b = get_or (files pic) j 0 in
    ⊎_elim
    (λ z.
    absurd (⊎_elim
    (λ e. omega (arith, atoms-same pic.boxes pic.rows file i j (omega arith) h (sym e)))
    (λ k. omega (arith, atoms-before pic.boxes pic.rows file j i h (omega arith) k))
    (eq-or-lt_of_le {n = b} {m = a} (omega arith))))
    (λ k. omega arith)
    (eq-zero-or-pos (b - a))

module _ (t : ℕ → Bool) (r : ℕ → Refusal) (pic : Picture) (x : Set) (is : (f : ℕ) → is_in x f ≡ (among (files pic) f && t f)) where
  abbrev fs : List ℕ
  fs = files pic

  abbrev at : ℕ → Option Refusal
  at c = given (t (get_or fs c 0)) (r (get_or fs c 0))

  -- a file at which the test holds is in the set
  held : (c : ℕ) → c < length fs → T (t (get_or fs c 0)) → T (is_in x (get_or fs c 0))
  held c l h = subst T (sym (is (get_or fs c 0))) (T_and (among fs (get_or fs c 0)) (t (get_or fs c 0)) (among-is fs c l) h)

  pub first-low : given (ltb (low x) 256) (r (low x)) ≡ first at (length fs)
  first-low = ⊎_elim none some (eq-or-lt_of_le (low-most x))
    where
      none : low x ≡ 256 → given (ltb (low x) 256) (r (low x)) ≡ first at (length fs)
      none e =
          given-false (ltb (low x) 256) (r (low x)) (le-ltb (low x) 256 (omega arith))
          ∙ sym (first-nothing at (length fs) (λ c l. given-false _ _ (not-false _ (λ h. false-not _ (none_in x e (get_or fs c 0)) (held c l h)))))

      some : low x < 256 → given (ltb (low x) 256) (r (low x)) ≡ first at (length fs)
      some l =
          let both = and_T (among fs (low x)) (t (low x)) (subst T (is (low x)) (low-in x l)) in
          let c = among-found fs (low x) both.0 in
          given-true (ltb (low x) 256) (r (low x)) (lt-ltb (low x) 256 l)
          ∙ sym (first-is at (length fs) (r (low x)) (
            c.0,
            c.1,
            rw c.2 (given-true _ _ (T_true _ both.1)),
            λ j k.
                given-false _ _ (not-false _ (λ h.
                low-least x (get_or fs j 0) (subst (λ (z : ℕ). get_or fs j 0 < z) c.2 (files-rise pic j c.0 k c.1)) (held j (omega arith) h))),
          ))

-- it is the row's first unclear pair
pub row-unclear : (pic : Picture) (m u : ℕ) (fs : List ℕ) (row : Row) (r : Result Unit Refusal) (v : ℕ)
    → r ≡ verdict_of (given (ltb (low row.unclear) 256) (UnclearPair m v (low row.unclear))) → v ≡ u → fs ≡ files pic
    → Sorts pic m v (among fs) row → r ≡ verdict_of (row_unclear pic m u fs)
unfolding user_unclear
row-unclear pic m u fs row r v er ev efs s =
    let sorts : Sorts pic m u (among (files pic)) row = rw (ev, efs) at s in
    er ∙ rw (ev, efs)
    (ap verdict_of (first-low (λ f. is_unclear (answer pic m u f)) (UnclearPair m u) pic row.unclear sorts.unclear-are))
