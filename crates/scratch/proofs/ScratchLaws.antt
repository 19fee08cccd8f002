-- What the filled scratch says, and when it is filled. Assumes nothing.
use mathlib.Core.Path.{◌≡◌, refl, sym, ap, subst, ◌∙◌}
use mathlib.Core.List.{List}
use Rattle.std.specs.Prelude.{Option, None as none, Some as some, MatchOption}
use Prim.Native.Nat.{ℕ, zero, suc, ◌+◌, ◌*◌, ◌/◌, ◌%◌, ◌<◌, ◌≤◌}
use native.Mathlib.Nat.{not-suc-le-zero, mod-lt, div-lt_iff_lt-mul}
use native.Mathlib.Decide.{dec_lt}
use native.Mathlib.Omega.{arith}
use lib.ListN.{length, get_or}
use lib.Seq.{ext_get_or}
use Rattle.base.specs.Search.{or_else}
use Rattle.base.specs.Buffers.{build}
use Rattle.base.proofs.BufferLaws.{written-length, written_at, written-rest, build-length, build-at}
use Rattle.base.proofs.Index.{in_table, at-div, at-mod, place}
use Rattle.tables.specs.Refusals.{verdict_of}
use Rattle.tables.specs.declared.Refusal.{Refusal}
use Rattle.std.specs.Prelude.{Result, Ok, Err, IsErrAnd}
use Rattle.std.proofs.lemmas.Result.{err_from_is_err_and}
use Rattle.tables.proofs.Verdicts.{passes, refuses}
use Rattle.tables.proofs.TableLaws.{room-passed}
use Rattle.containment.specs.Contains.{loop_fault}
use Rattle.scratch.specs.Scratch.{Drawn, drawn, scratch_bytes, scratch_fault, scratch_after}
use Rattle.scratch.specs.Steps.{filled, Bytes, SameFrom}
use Rattle.scratch.proofs.DrawnLaws.{drawn-iff}

module _ (n : ℕ) (rows s : List ℕ) where
  abbrev cell : ℕ → ℕ
  cell p = drawn rows (p / n) (p % n)

  pub filled-length : n * n ≤ length s → length (filled n rows s) ≡ length s
  unfolding scratch_bytes
  filled-length h = written-length (build cell (n * n)) s (rw build-length h)

  filled-place : (p : ℕ) → p < n * n → get_or (filled n rows s) p 0 ≡ cell p
  unfolding scratch_bytes
  filled-place p l = written_at (build cell (n * n)) s p (rw build-length l) ∙ build-at cell (n * n) p l

  filled-rest : (p : ℕ) → n * n ≤ p → get_or (filled n rows s) p 0 ≡ get_or s p 0
  unfolding scratch_bytes
  filled-rest p h = written-rest (build cell (n * n)) s p (rw build-length h)

  pub filled-cell : (a b : ℕ) → a < n → b < n → get_or (filled n rows s) (a * n + b) 0 ≡ drawn rows a b
  filled-cell a b la lb = filled-place (a * n + b) (in_table n n a b la lb) ∙ rw (at-div n a b lb, at-mod n a b lb)

  -- "Byte a × n + b of the containment scratch shall hold 2 where .., 1 where .., 0 otherwise"
  pub filled-drawn : (a b : ℕ) → a < n → b < n → Drawn rows a b (get_or (filled n rows s) (a * n + b) 0)
  filled-drawn a b la lb = (drawn-iff rows a b _).0 (sym (filled-cell a b la lb))

  -- bytes that say so in each place, and are as they were from n * n on, are the filled ones
  pub is-filled : (t : List ℕ) → n * n ≤ length s → Bytes n (drawn rows) t → SameFrom (n * n) s t → t ≡ filled n rows s
  is-filled t room h g = ext_get_or 0 t (filled n rows s) (g.len ∙ sym (filled-length room)) (λ p l. at p (dec_lt p (n * n)))
    where
      pos_of : (m p : ℕ) → p < m * m → 0 < m
      pos_of zero p l = absurd (not-suc-le-zero l)
      pos_of (suc m) p l = omega arith

      at : (p : ℕ) → Dec (p < n * n) → get_or t p 0 ≡ get_or (filled n rows s) p 0
      at p (yes l) =
          let pos = pos_of n p l in
          subst (λ (k : ℕ). get_or t k 0 ≡ cell p) (place n p) (h (p / n) (p % n) ((div-lt_iff_lt-mul pos).1 l) (mod-lt p pos))
          ∙ sym (filled-place p l)
      at p (no l) = g.rest p (omega arith) ∙ sym (filled-rest p (omega arith))

-- ---- what `prepare` promises, where its error is a refusal

-- the answer by the fault that was found, if any
told : (fault : Option Refusal) (v : Result Unit Refusal) → MatchOption fault (v ≡ Ok tt) (λ r. IsErrAnd v (λ x. x ≡ r))
    → v ≡ verdict_of fault
told none v h = h
told (some r) v h =
    let w = err_from_is_err_and v h in
    w.1 ∙ ap (λ (x : Refusal). Err x) w.2

module _ (boxes rows s : List ℕ) {early v : Result Unit Refusal} {t : List ℕ}
    (refused : (r : Refusal) → early ≡ Err r → (v ≡ Err r) × (t ≡ s))
    (value : early ≡ Ok tt
    → MatchOption (loop_fault boxes rows) (v ≡ Ok tt) (λ r. IsErrAnd v (λ x. x ≡ r)) × (t ≡ scratch_after none boxes rows s)) where
  -- the answer is by the first fault, and the scratch by the early one
  pub ends : (e : Option Refusal) → early ≡ verdict_of e
      → (v ≡ verdict_of (or_else e (loop_fault boxes rows))) × (t ≡ scratch_after e boxes rows s)
  ends none i =
      let w = value i in
      (told (loop_fault boxes rows) v w.0 ∙ passes none (loop_fault boxes rows) refl, w.1)
  ends (some r) i =
      let w = refused r i in
      (w.0 ∙ refuses (some r) (loop_fault boxes rows) r refl, w.1)

-- where check 9 passes, there is room
pub scratch-room : (n : ℕ) (s : List ℕ) → scratch_fault n s ≡ none → n * n ≤ length s
unfolding scratch_fault
scratch-room n s e = room-passed 0 (length s) (n * n) e
