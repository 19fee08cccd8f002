-- The pairs by their places, and the first at which a test holds, by user, then file. Assumes nothing.
use mathlib.Core.Path.{◌≡◌, refl, ap}
use mathlib.Core.Logic.{⊎_elim}
use mathlib.Core.Bool.{Bool, false}
use mathlib.Core.List.{List}
use Rattle.std.specs.Prelude.{Option, None as none, Some as some}
use Prim.Native.Nat.{ℕ, ◌+◌, ◌*◌, ◌/◌, ◌%◌, ◌<◌}
use native.Mathlib.Nat.{mod-lt, div-lt_iff_lt-mul, eq-zero-or-pos, mul-zero}
use native.Mathlib.Omega.{arith}
use lib.Dec.{T}
use lib.ListN.{length, get_or}
use Rattle.base.specs.Search.{given, first}
use Rattle.tables.specs.Rows.{Picture, user, file}
use Rattle.tables.specs.Atoms.{atom}
use Rattle.tables.specs.declared.Refusal.TheVariants.{UnclearPair}
use Rattle.tables.specs.declared.Refusal.{Refusal}
use Rattle.base.proofs.SearchLaws.{first-none, first_some, given-some, given-none, given-false}
use Rattle.tables.proofs.AtomPlaces.{pair_count-is, atoms-found, atoms-has, atoms-before, atoms-same}
use Rattle.base.proofs.Index.{in_table, at-div, at-mod, place, row_step}
use Rattle.meaning.specs.Pairs.{Before, users, files, pairs, user_at, file_at, answer_at, unclear_fault}
use Rattle.meaning.specs.Steps.{first_pair}
use Rattle.meaning.specs.Meaning.{is_unclear}

-- a place of a table of m rows of n: its row and its column
pub place_in : (m n p : ℕ) → p < m * n → (p / n < m) × (p % n < n)
place_in m n p h =
    let some-column : 0 < n = ⊎_elim (λ (z : n ≡ 0). absurd (omega (arith, (rw (z, mul-zero m) at h)))) (λ l. l) (eq-zero-or-pos n) in
    ((div-lt_iff_lt-mul some-column).1 h, mod-lt p some-column)

-- a place in an earlier row, or in the same row and an earlier column, comes before
earlier-row : (n p q : ℕ) → q % n < n → q / n < p / n → q < p
earlier-row n p q h l = omega (arith, row_step n (q / n) (p / n) l, place n p, place n q)

earlier-column : (n p q : ℕ) → q / n ≡ p / n → q % n < p % n → q < p
earlier-column n p q e l = omega (arith, ap (λ (k : ℕ). k * n) e, place n p, place n q)

module _ (pic : Picture) where
  -- the row and the column of a place
  pair-in : (p : ℕ) → p < pairs pic
      → (p / length (files pic) < length (users pic)) × (p % length (files pic) < length (files pic))
  pair-in p h = place_in (length (users pic)) (length (files pic)) p (rw pair_count-is at h)

  -- what stands at a place is a pair of atomic boxes
  pub user_at-atom : (p : ℕ) → p < pairs pic → T (atom pic.boxes pic.rows user (user_at pic p))
  unfolding user_at
  user_at-atom p h = atoms-found pic.boxes pic.rows user (p / length (files pic)) (pair-in p h).0

  pub file_at-atom : (p : ℕ) → p < pairs pic → T (atom pic.boxes pic.rows file (file_at pic p))
  unfolding file_at
  file_at-atom p h = atoms-found pic.boxes pic.rows file (p % length (files pic)) (pair-in p h).1

  -- and each such pair has a place
  pub pair_place : (u f : ℕ) → T (atom pic.boxes pic.rows user u) → T (atom pic.boxes pic.rows file f)
      → (p : ℕ) × (p < pairs pic) × (user_at pic p ≡ u) × (file_at pic p ≡ f)
  unfolding user_at file_at
  pair_place u f a b =
      let n = length (files pic) in
      let i = atoms-has pic.boxes pic.rows user u a in
      let j = atoms-has pic.boxes pic.rows file f b in (
        i.0 * n + j.0,
        rw pair_count-is (in_table (length (users pic)) n i.0 j.0 i.1 j.1),
        rw (at-div n i.0 j.0 j.1) i.2,
        rw (at-mod n i.0 j.0 j.1) j.2,
      )

  -- a pair read out of the two lists by its place
  module _ (us fs : List ℕ) (eu : us ≡ users pic) (ef : fs ≡ files pic) (p : ℕ) where
    pub pairs-are : length us * length fs ≡ pairs pic
    pairs-are = rw (eu, ef, pair_count-is)

    pub user-read : get_or us (p / length fs) 0 ≡ user_at pic p
    unfolding user_at
    user-read = rw (eu, ef)

    pub file-read : get_or fs (p % length fs) 0 ≡ file_at pic p
    unfolding file_at
    file-read = rw ef

  -- places follow the order by user, then file
  pub pair-before : (p q : ℕ) → p < pairs pic → q < pairs pic
      → Before (user_at pic q) (file_at pic q) (user_at pic p) (file_at pic p) → q < p
  unfolding user_at file_at
  pair-before p q hp hq =
      let n = length (files pic) in
      let at = pair-in p hp in
      let to = pair-in q hq in
      ⊎_elim
      (λ l. earlier-row n p q to.1 (atoms-before pic.boxes pic.rows user (q / n) (p / n) to.0 at.0 l))
      (λ r. earlier-column n p q (atoms-same pic.boxes pic.rows user (q / n) (p / n) to.0 at.0 r.0)
      (atoms-before pic.boxes pic.rows file (q % n) (p % n) to.1 at.1 r.1))

  -- ---- the first pair at which the test holds
  module _ (t : ℕ → ℕ → Bool) (r : ℕ → ℕ → Refusal) where
    pub first_pair-none : first_pair pic t r ≡ none → (u f : ℕ) → T (atom pic.boxes pic.rows user u) → T (atom pic.boxes pic.rows file f) → T (t u f) → ⊥
    unfolding first_pair
    first_pair-none e u f a b h =
        let p = pair_place u f a b in
        given-none (t (user_at pic p.0) (file_at pic p.0)) _ (first-none _ (pairs pic) e p.0 p.1)
        (rw (p.2, p.3) h)

    pub record IsFirst (u f : ℕ) : Type 0 where
      pub a-user : T (atom pic.boxes pic.rows user u)
      pub a-file : T (atom pic.boxes pic.rows file f)
      pub holds : T (t u f)
      pub none_before : (v g : ℕ) → T (atom pic.boxes pic.rows user v) → T (atom pic.boxes pic.rows file g) → Before v g u f → T (t v g) → ⊥

    pub first_pair-some : (x : Refusal) → first_pair pic t r ≡ some x → (u f : ℕ) × (r u f ≡ x) × IsFirst u f
    unfolding first_pair
    first_pair-some x e =
        let w = first_some _ (pairs pic) x e in
        let p = w.0 in
        let u = user_at pic p in
        let f = file_at pic p in
        let s = given-some (t u f) (r u f) x w.2 in (
          u,
          f,
          s.1,
          record {
            a-user = user_at-atom p w.1;
            a-file = file_at-atom p w.1;
            holds = s.0;
            none_before = λ v g a b o h.
                let q = pair_place v g a b in
                let o' : Before (user_at pic q.0) (file_at pic q.0) u f = rw (q.2, q.3) o in
                given-none (t (user_at pic q.0) (file_at pic q.0)) _ (w.3 q.0 (pair-before p q.0 w.1 q.1 o'))
                (rw (q.2, q.3) h);
          },
        )

-- the loop that looks for the first unclear pair of a mode
module _ (pic : Picture) (m : ℕ) where
  abbrev pub unclear_at : ℕ → Option Refusal
  unclear_at p = given (is_unclear (answer_at pic m p)) (UnclearPair m (user_at pic p) (file_at pic p))

  pub unclear-none : (p : ℕ) → is_unclear (answer_at pic m p) ≡ false → unclear_at p ≡ none
  unclear-none p e = given-false _ _ e

  pub unclear-is : unclear_fault pic m ≡ first unclear_at (pairs pic)
  unfolding unclear_fault
  unclear-is = refl
