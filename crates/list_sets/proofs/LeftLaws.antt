-- Tables of files by user: how they are filled user by user, and the first pair that two of them share. Assumes nothing.
use mathlib.Core.Path.{◌≡◌, refl, sym, ap, subst, ◌∙◌}
use mathlib.Core.Bool.{Bool, true, false, ◌&&◌, ◌||◌, and_assoc, and_comm, and-true, or-true, or-false}
use mathlib.Core.List.{List, []}
use Prim.Native.Nat.{ℕ, ◌+◌, ◌<◌, ◌≤◌}
use native.Mathlib.Decide.{ℕ_discrete}
use native.Mathlib.Omega.{arith}
use borrow.Author.Count.{below_more}
use borrow.Author.Tests.{eq-eqb, ne_eqb}
use lib.Dec.{T, eqb, eqb→eq}
use lib.ListN.{length, get_or}
use Rattle.base.specs.Steps.{any_below}
use Rattle.base.specs.Buffers.{zeros}
use Rattle.base.proofs.Tests.{and_T, T_and, T-eqb, T-same, T_true, false-not}
use Rattle.base.proofs.AnyLaws.{any-zero, any-more, any_found, any-is}
use Rattle.base.proofs.BufferLaws.{zeros-length}
use Rattle.tables.specs.Rows.{Picture, user, file}
use Rattle.tables.specs.Atoms.{atom, atoms}
use Rattle.tables.specs.Refusals.{verdict_of}
use Rattle.tables.specs.declared.Refusal.TheVariants.{NoOrder}
use Rattle.std.specs.Prelude.{Ok, Err}
use Rattle.tables.proofs.AtomPlaces.{atoms-found, atoms-has, atom-there}
use Rattle.boxsets.specs.Sets.{is_in, low, has, set_at, Put, table_words}
use Rattle.boxsets.specs.declared.Set.{Set}
use Rattle.boxsets.proofs.TableLaws.{has_in, put-hit, put-miss, zeros-has}
use Rattle.boxsets.proofs.LowLaws.{low-in, low-least, none_in}
use Rattle.meaning.specs.Pairs.{users}
use Rattle.meaning.proofs.RowPairs.{RowsClear, rows-found, rows_end}
use Rattle.user_rows.specs.Steps.{Ready}
use Rattle.list_meaning.specs.Greedy.{greedy, order_fault}
use Rattle.list_meaning.proofs.CallerLaws.{any_of-none, order-rows}
use Rattle.list_meaning.specs.Steps.{Table, unreached, granted_to}

-- ---- a table that is filled user by user

-- u is one of the first i users
abbrev pub one_of : (us : List ℕ) (i u : ℕ) → Bool
one_of us i u = any_below (λ j. eqb (get_or us j 0) u) i

-- each of the first i users has the files of her row, and no other box has any
pub record Filled (us : List ℕ) (row : ℕ → ℕ → Bool) (i : ℕ) (t : List ℕ) : Type 0 where
  pub len : length t ≡ table_words
  pub each : (u f : ℕ) → has t u f ≡ (one_of us i u && row u f)

module _ {us : List ℕ} {row : ℕ → ℕ → Bool} where
  pub filled_none : {t : List ℕ} → t ≡ zeros table_words → Filled us row 0 t
  filled_none e = record { len = ap length e ∙ zeros-length 1024; each = λ u f. rw (e, any-zero) (zeros-has 1024 u f) }

  pub filled_more : {i v : ℕ} {x : Set} {t t' : List ℕ} → v ≡ get_or us i 0 → ((f : ℕ) → is_in x f ≡ row v f) → Put t v x t'
      → Filled us row i t → Filled us row (i + 1) t'
  filled_more {i} {v} {x} {t} {t'} e same put s = record { len = put.len ∙ s.len; each = λ u f. go u f (ℕ_discrete u v) }
    where
      one_more : (u : ℕ) → one_of us (i + 1) u ≡ (one_of us i u || eqb (get_or us i 0) u)
      one_more u = any-more (λ j. eqb (get_or us j 0) u) i

      go : (u f : ℕ) → Dec (u ≡ v) → has t' u f ≡ (one_of us (i + 1) u && row u f)
      go u f (yes d) = rw (d, one_more v, eq-eqb (get_or us i 0) v (sym e), or-true) (put-hit t v x t' put f ∙ same f)
      go u f (no n) =
          rw (one_more u, ne_eqb (get_or us i 0) u (λ q. n (sym q ∙ sym e)), or-false) (put-miss t v x t' put u f n ∙ s.each u f)

-- all atomic users
atoms-one : (boxes rows : List ℕ) (s u : ℕ) → one_of (atoms boxes rows s) (length (atoms boxes rows s)) u ≡ atom boxes rows s u
atoms-one boxes rows s u =
    let us = atoms boxes rows s in
    T-same (one_of us (length us) u) (atom boxes rows s u)
    (λ t.
    let r = any_found (λ j. eqb (get_or us j 0) u) (length us) t in
    subst (λ (b : ℕ). T (atom boxes rows s b)) (eqb→eq (get_or us r.0 0) u r.2) (atoms-found boxes rows s r.0 r.1))
    (λ t.
    let r = atoms-has boxes rows s u t in
    any-is (λ j. eqb (get_or us j 0) u) (length us) r.0 r.1 (T-eqb r.2))

-- so the table says the test at each pair
pub filled-all : (pic : Picture) (us : List ℕ) (test : ℕ → ℕ → Bool) (t : List ℕ) → us ≡ users pic
    → Filled us (λ u f. atom pic.boxes pic.rows file f && test u f) (length us) t → Table pic test t
filled-all pic us test t e s = record {
  len = s.len;
  each = λ u f l.
      s.each u f
      ∙ rw (e, atoms-one pic.boxes pic.rows user u)
      (sym (and_assoc (atom pic.boxes pic.rows user u) (atom pic.boxes pic.rows file f) (test u f)));
}

-- every file: the pairs that the empty list does not reach
pub filled-files : {pic : Picture} {closure arrows us : List ℕ} {files : Set} {i : ℕ} {t : List ℕ} → Ready pic closure arrows us files
    → i ≡ length us → Filled us (λ u f. is_in files f) i t → Table pic (unreached pic []) t
filled-files {pic} {us = us} {t = t} r e s =
    filled-all pic us (unreached pic []) t r.users-are
    (record { len = s.len; each = λ u f. s.each u f ∙ rw (e, r.files-are f, any_of-none, and-true) })

-- ---- the first granted pair that is left

-- no file of the first i users is both left and granted
pub record NoneMissed (us left granted : List ℕ) (i : ℕ) : Type 0 where
  pub none : (j : ℕ) → j < i → (f : ℕ) → (has left (get_or us j 0) f && has granted (get_or us j 0) f) ≡ false

-- the pair is granted, and the list does not reach it
abbrev missed : (pic : Picture) (m u f : ℕ) → Bool
missed pic m u f = granted_to pic m u f && unreached pic (greedy pic m) u f

module _ {pic : Picture} {closure arrows us : List ℕ} {files : Set} {left granted : List ℕ} {i : ℕ} (m : ℕ) (ready : Ready pic closure arrows us files)
    (tg : Table pic (granted_to pic m) granted) (tl : Table pic (unreached pic (greedy pic m)) left) (s : NoneMissed us left granted i) where
  missed-is : (j : ℕ) → j < length us → (f : ℕ)
      → (has left (get_or us j 0) f && has granted (get_or us j 0) f) ≡ (atom pic.boxes pic.rows file f && missed pic m (get_or (users pic) j 0) f)
  missed-is j l f =
      let u = get_or (users pic) j 0 in
      let a = atoms-found pic.boxes pic.rows user j (rw ready.users-are at l) in
      let b : u < 256 = omega (arith, atom-there pic.boxes pic.rows user u a, ready.drawn.rows-sound.few-boxes) in
      rw (ready.users-are, tl.each u f b, tg.each u f b, T_true (atom pic.boxes pic.rows user u) a)
      (regroup (atom pic.boxes pic.rows file f) (unreached pic (greedy pic m) u f) (granted_to pic m u f))
    where
      regroup : (a b c : Bool) → ((a && b) && (a && c)) ≡ (a && (c && b))
      regroup true b c = and_comm b c
      regroup false b c = refl

  rows-clear : i ≤ length us → RowsClear pic (missed pic m) i
  rows-clear h j l g a t =
      false-not _ (sym (missed-is j (omega arith) g) ∙ s.none j l g)
      (T_and (atom pic.boxes pic.rows file g) (missed pic m (get_or (users pic) j 0) g) a t)

  pub missed-none : i ≡ length us → Ok tt ≡ verdict_of (order_fault pic m)
  missed-none e =
      rw (order-rows pic m)
      (sym (ap verdict_of (rows_end pic (missed pic m) (NoOrder m) (rw (e, ready.users-are) at (rows-clear (omega arith))))))

-- the user at place i, and the set of her files that are both left and granted
module _ {us left granted : List ℕ} {i u : ℕ} {a b : Set} (s : NoneMissed us left granted i) (is : u ≡ get_or us i 0) (of_left : a ≡ set_at left u)
    (of-granted : b ≡ set_at granted u) (x : Set) (both : (f : ℕ) → is_in x f ≡ (is_in a f && is_in b f)) where
  missed-in : (f : ℕ) → is_in x f ≡ (has left (get_or us i 0) f && has granted (get_or us i 0) f)
  missed-in f = both f ∙ rw (of_left, of-granted, is) (simp has_in)

  pub missed_more : low x ≡ 256 → NoneMissed us left granted (i + 1)
  missed_more e = record {
    none = below_more (λ j. (f : ℕ) → (has left (get_or us j 0) f && has granted (get_or us j 0) f) ≡ false) i s.none (λ f. sym (missed-in f) ∙ none_in x e f);
  }

  pub missed-found : {pic : Picture} {closure arrows : List ℕ} {files : Set} (m : ℕ) → Ready pic closure arrows us files
      → Table pic (granted_to pic m) granted → Table pic (unreached pic (greedy pic m)) left → i < length us → {f : ℕ} → f < 256 → f ≡ low x
      → Err (NoOrder m u f) ≡ verdict_of (order_fault pic m)
  missed-found {pic} m ready tg tl l few e =
      let in_row : (f : ℕ) → is_in x f ≡ (atom pic.boxes pic.rows file f && missed pic m (get_or (users pic) i 0) f)
      = λ f. missed-in f ∙ missed-is m ready tg tl s i l f in
      let pair = and_T (atom pic.boxes pic.rows file (low x)) (missed pic m (get_or (users pic) i 0) (low x)) (rw (in_row (low x)) at (low-in x (rw e at few))) in
      rw (order-rows pic m, e, is, ready.users-are)
      (sym (ap verdict_of
      (rows-found pic (missed pic m) (NoOrder m) i (rw ready.users-are at l) (rows-clear m ready tg tl s (omega arith)) (low x) pair.0 pair.1
      (λ g b a t. low-least x g b (rw (in_row g) (T_and (atom pic.boxes pic.rows file g) (missed pic m (get_or (users pic) i 0) g) a t))))))
