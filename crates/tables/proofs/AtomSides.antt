-- A box is atomic on one side at most, so that few boxes make few pairs. Assumes nothing.
use mathlib.Core.Path.{◌≡◌}
use mathlib.Core.List.{List}
use Prim.Native.Nat.{ℕ, ◌+◌, ◌≤◌}
use native.Mathlib.Omega.{arith}
use lib.Dec.{T}
use lib.ListN.{length, get_or}
use Rattle.base.proofs.SelectLaws.{select_apart}
use Rattle.base.proofs.Index.{few-places}
use Rattle.tables.specs.Rows.{user, file, side_of}
use Rattle.tables.specs.Atoms.{atom, atoms, pair_count}
use Rattle.tables.proofs.GroupLaws.{on_side-side, atom-iff}

module _ (boxes rows : List ℕ) where
  atom-side : (s b : ℕ) → T (atom boxes rows s b) → side_of (get_or boxes b 0) ≡ s
  atom-side s b t = on_side-side boxes s b ((atom-iff boxes rows s b).0 t).0

  pub atoms-apart : length (atoms boxes rows user) + length (atoms boxes rows file) ≤ length boxes
  unfolding atoms
  atoms-apart =
      select_apart (atom boxes rows user) (atom boxes rows file)
      (λ b u f. absurd (omega (arith, atom-side user b u, atom-side file b f))) (length boxes)

-- 256 boxes make at most 128 × 128 pairs
pub pairs-most : (boxes rows : List ℕ) → length boxes ≤ 256 → pair_count boxes rows ≤ 16384
unfolding pair_count
pairs-most boxes rows h = few-places (length (atoms boxes rows user)) (length (atoms boxes rows file)) (omega (arith, atoms-apart boxes rows))
