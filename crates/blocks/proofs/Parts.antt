-- A block's bytes as bytes of its file, and parts of a list. Assumes nothing.
use mathlib.Core.Path.{◌≡◌}
use mathlib.Core.List.{List, [], ◌∷◌}
use Prim.Native.Nat.{ℕ, zero, suc, ◌+◌, ◌*◌, ◌-◌, ◌<◌, ◌≤◌}
use native.Mathlib.Omega.{arith}
use native.Mathlib.Nat.{sub-zero, zero-sub, suc-sub-suc}
use lib.ListN.{get_or, take, drop, length-take, drop_of_length-le}
use lib.Seq.{get_or-take, get_or-drop, take-nil}
use Rattle.blocks.specs.Files.{block_at}

pub byte_at : (file : List ℕ) (k at : ℕ) → at < 512 → get_or (block_at file k) at 0 ≡ get_or file (512 * k + at) 0
unfolding block_at
byte_at file k at h = rw (get_or-take, get_or-drop)

pub drop-take : (m n : ℕ) (l : List ℕ) → drop m (take n l) ≡ take (n - m) (drop m l)
drop-take zero n l = rw sub-zero
drop-take (suc m) zero l = rw zero-sub
drop-take (suc m) (suc n) [] = rw take-nil
drop-take (suc m) (suc n) (x ∷ l) = rw suc-sub-suc (drop-take m n l)

-- none of the first n from a later one on
pub covered_none : (l : List ℕ) (n e : ℕ) → n ≤ e → drop e (take n l) ≡ []
covered_none l n e h = drop_of_length-le (take n l) {i = e} (simp length-take (omega arith))
