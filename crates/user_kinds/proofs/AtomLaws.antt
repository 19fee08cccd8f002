-- The atomic boxes of a side as a list that was written, and as a set. Assumes nothing.
use mathlib.Core.Path.{◌≡◌, ap, subst, ◌∙◌}
use mathlib.Core.List.{List}
use Prim.Native.Nat.{ℕ, ◌<◌, ◌≤◌}
use native.Mathlib.Omega.{arith}
use lib.Dec.{T}
use lib.ListN.{length, get_or, take}
use Rattle.base.specs.Buffers.{zeros}
use Rattle.base.proofs.Tests.{T-same}
use Rattle.base.proofs.PartLaws.{Wrote, part-is, part_length, part-within}
use Rattle.tables.specs.Atoms.{atom, atoms}
use Rattle.tables.proofs.AtomPlaces.{atom-there, atoms-found, atoms-has, atoms-most}
use Rattle.boxsets.specs.Sets.{among, Boxes}
use Rattle.boxsets.proofs.AmongLaws.{among-is, among-found}
use Rattle.user_kinds.proofs.TakenLaws.{room}

-- the first `count` places of `out` are lent on: they hold the atomic boxes
pub record Listed (boxes rows : List ℕ) (side count : ℕ) (out : List ℕ) : Type 0 where
  pub within : count ≤ length out
  pub len : count ≡ length (take count out)
  pub are : take count out ≡ atoms boxes rows side
  pub small : Boxes (take count out)

module _ (boxes rows : List ℕ) (side : ℕ) where
  -- a box is one of them exactly if it is atomic
  pub among-atoms : (b : ℕ) → among (atoms boxes rows side) b ≡ atom boxes rows side b
  among-atoms b =
      T-same (among (atoms boxes rows side) b) (atom boxes rows side b)
      (λ t.
      let f = among-found (atoms boxes rows side) b t in
      subst (λ (z : ℕ). T (atom boxes rows side z)) f.2 (atoms-found boxes rows side f.0 f.1))
      (λ t.
      let h = atoms-has boxes rows side b t in
      subst (λ (z : ℕ). T (among (atoms boxes rows side) z)) h.2 (among-is (atoms boxes rows side) h.0 h.1))

  -- each is a box of the picture
  atoms-there : (i : ℕ) → i < length (atoms boxes rows side) → get_or (atoms boxes rows side) i 0 < length boxes
  atoms-there i l = atom-there boxes rows side (get_or (atoms boxes rows side) i 0) (atoms-found boxes rows side i l)

  -- place i of the list, as read by a loop
  pub listed_at : (xs : List ℕ) → xs ≡ atoms boxes rows side → (i b : ℕ) → i < length xs → b ≡ get_or xs i 0
      → (b ≡ get_or (atoms boxes rows side) i 0) × (i < length (atoms boxes rows side)) × (b < length boxes)
  listed_at xs e i b l is =
      let at = is ∙ ap (λ (ys : List ℕ). get_or ys i 0) e in
      let there : i < length (atoms boxes rows side) = omega (arith, ap length e) in
      (at, there, rw at (atoms-there i there))

  -- by what `atoms::atoms_of` promises
  pub listed : length boxes ≤ 256 → (old : List ℕ) (count : ℕ) (out : List ℕ) → old ≡ zeros 256
      → Wrote (atoms boxes rows side) old count out → Listed boxes rows side count out
  listed few old count out e w =
      let is = part-is (atoms boxes rows side) old count out w in
      let all : Boxes (atoms boxes rows side) = λ i l. omega (arith, atoms-there i l) in
      record {
        within = part-within (atoms boxes rows side) old count out w (omega (arith, atoms-most boxes rows side, room 256 e));
        len = part_length (atoms boxes rows side) old count out w;
        are = is;
        small = rw is all;
      }
