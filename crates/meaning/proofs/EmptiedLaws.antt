-- An arrow at a user group or folder that holds nothing reaches no pair (document 02, P6). Assumes nothing.
use mathlib.Core.Path.{◌≡◌}
use mathlib.Core.Bool.{false, and-false}
use Prim.Native.Nat.{ℕ}
use lib.Dec.{T}
use lib.ListN.{get_or}
use Rattle.tables.specs.Rows.{Picture, user, file, is_group}
use Rattle.tables.specs.Atoms.{outer, atom}
use Rattle.tables.specs.declared.Arrow.{Arrow}
use Rattle.containment.proofs.ContainsLaws.{emptied-around}
use Rattle.meaning.specs.Meaning.{reaches}

-- box b is a user group or folder that holds nothing
abbrev pub Emptied : Picture → ℕ → Type 0
Emptied pic b = T (is_group (get_or pic.boxes b 0)) × (T (outer pic.rows b) → ⊥)

module _ (pic : Picture) (a : Arrow) (u f : ℕ) where
  pub emptied-tail : Emptied pic a.tail → T (atom pic.boxes pic.rows user u) → reaches pic a u f ≡ false
  unfolding reaches
  emptied-tail e t = rw (emptied-around pic.boxes pic.rows user a.tail u e.0 e.1 t)

  pub emptied-head : Emptied pic a.head → T (atom pic.boxes pic.rows file f) → reaches pic a u f ≡ false
  unfolding reaches
  emptied-head e t = rw (emptied-around pic.boxes pic.rows file a.head f e.0 e.1 t, and-false)
