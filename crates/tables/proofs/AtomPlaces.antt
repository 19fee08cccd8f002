-- The atomic boxes of a side, by rising number: which they are; each is there once; how many pairs they make. Assumes nothing.
use mathlib.Core.Path.{◌≡◌, refl, ap, fun_ext}
use mathlib.Core.Bool.{Bool, not, ◌&&◌}
use mathlib.Core.List.{List}
use Prim.Native.Nat.{ℕ, ◌*◌, ◌<◌, ◌≤◌}
use native.Mathlib.Nat.{mul-le-mul, le_trans}
use lib.Dec.{T}
use lib.ListN.{length, get_or}
use Rattle.base.specs.Search.{select}
use Rattle.tables.specs.Rows.{user, file, is_group, on_side}
use Rattle.tables.specs.Atoms.{outer, atom, atoms, pair_count}
use Rattle.tables.proofs.GroupLaws.{on_side-there, atom-iff}
use Rattle.base.proofs.BufferLaws.{select-most}
use Rattle.base.proofs.SelectLaws.{select-found, select_has, select-before, select-same}

module _ (boxes rows : List ℕ) where
  pub atom-is : (s b : ℕ) → atom boxes rows s b ≡ (on_side boxes s b && not (is_group (get_or boxes b 0)) && not (outer rows b))
  unfolding atom
  atom-is s b = refl

  pub atoms-is : (s : ℕ) → atoms boxes rows s ≡ select (atom boxes rows s) (length boxes)
  unfolding atoms
  atoms-is s = refl

  pub atom-there : (s b : ℕ) → T (atom boxes rows s b) → b < length boxes
  atom-there s b t = on_side-there boxes s b ((atom-iff boxes rows s b).0 t).0

  pub atoms-found : (s i : ℕ) → i < length (atoms boxes rows s) → T (atom boxes rows s (get_or (atoms boxes rows s) i 0))
  unfolding atoms
  atoms-found s i l = (select-found (atom boxes rows s) (length boxes) i l).1

  pub atoms-has : (s b : ℕ) → T (atom boxes rows s b) → (i : ℕ) × (i < length (atoms boxes rows s)) × (get_or (atoms boxes rows s) i 0 ≡ b)
  unfolding atoms
  atoms-has s b t = select_has (atom boxes rows s) (length boxes) b (atom-there s b t) t

  pub atoms-before : (s i j : ℕ) → i < length (atoms boxes rows s) → j < length (atoms boxes rows s)
      → get_or (atoms boxes rows s) i 0 < get_or (atoms boxes rows s) j 0 → i < j
  unfolding atoms
  atoms-before s i j = select-before (atom boxes rows s) (length boxes) i j

  pub atoms-same : (s i j : ℕ) → i < length (atoms boxes rows s) → j < length (atoms boxes rows s)
      → get_or (atoms boxes rows s) i 0 ≡ get_or (atoms boxes rows s) j 0 → i ≡ j
  unfolding atoms
  atoms-same s i j = select-same (atom boxes rows s) (length boxes) i j

  pub atoms-most : (s : ℕ) → length (atoms boxes rows s) ≤ length boxes
  unfolding atoms
  atoms-most s = select-most (atom boxes rows s) (length boxes)

  pub pair_count-is : pair_count boxes rows ≡ length (atoms boxes rows user) * length (atoms boxes rows file)
  unfolding pair_count
  pair_count-is = refl

-- atomic boxes go by which boxes are outer ones
pub atoms-by-outer : (boxes rows new : List ℕ) → ((b : ℕ) → outer rows b ≡ outer new b) → (s : ℕ) → atoms boxes rows s ≡ atoms boxes new s
unfolding atoms atom
atoms-by-outer boxes rows new same s = ap (λ (p : ℕ → Bool). select p (length boxes)) (fun_ext (λ b. rw (same b)))

-- at most 256 boxes give so many pairs
pub few-pairs : (boxes rows : List ℕ) → length boxes ≤ 256 → length (atoms boxes rows user) * length (atoms boxes rows file) ≤ 65536
few-pairs boxes rows h = mul-le-mul (le_trans (atoms-most boxes rows user) h) (le_trans (atoms-most boxes rows file) h)
