-- What the byte of a box says of its side and of its being atomic (document 02, P6). Assumes nothing.
use mathlib.Core.Path.{◌≡◌, refl, ap, fun_ext, ◌∙◌}
use mathlib.Core.Logic.{◌↔◌}
use mathlib.Core.Bool.{Bool, true, false, not, ◌&&◌, and-true, and-false}
use mathlib.Core.List.{List}
use Prim.Native.Nat.{ℕ, zero, suc, ◌<◌, ◌≤◌}
use native.Mathlib.Omega.{arith}
use lib.Dec.{T, T_not, not_T, ltb, eqb→eq, ltb→lt}
use lib.ListN.{length, get_or}
use Rattle.base.specs.Search.{select}
use Rattle.tables.specs.Rows.{picture, user, file, side_of, is_group, on_side}
use Rattle.tables.specs.Atoms.{outer, atom, atoms}
use Rattle.tables.specs.Faults.{byte_fault, names_no_box, across_sides, wrong_ends, table_fault}
use Rattle.base.proofs.Tests.{and_T, T_and, T?, T_true, not-false}

-- 0 and 2 are on the user side, 1 and 3 on the file side
pub sides : (side_of user ≡ user) × (side_of 2 ≡ user) × (side_of file ≡ file) × (side_of 3 ≡ file)
unfolding side_of
sides = (refl, refl, refl, refl)

-- 2 and 3 are the bytes of groups and folders
pub groups : (is_group user ≡ false) × (is_group file ≡ false) × (is_group 2 ≡ true) × (is_group 3 ≡ true)
unfolding is_group
groups = (refl, refl, refl, refl)

module _ (boxes : List ℕ) where
  pub on_side-there : (s b : ℕ) → T (on_side boxes s b) → b < length boxes
  unfolding on_side
  on_side-there s b t = ltb→lt b (length boxes) (and_T (ltb b (length boxes)) _ t).0

  pub on_side-side : (s b : ℕ) → T (on_side boxes s b) → side_of (get_or boxes b 0) ≡ s
  unfolding on_side
  on_side-side s b t = eqb→eq (side_of (get_or boxes b 0)) s (and_T (ltb b (length boxes)) _ t).1

module _ (boxes rows : List ℕ) (s b : ℕ) where
  abbrev byte : ℕ
  byte = get_or boxes b 0

  -- an atomic box of a side: on that side, no user group or folder, and the outer box of no row
  pub atom-iff : T (atom boxes rows s b) ↔ (T (on_side boxes s b) × (T (is_group byte) → ⊥) × (T (outer rows b) → ⊥))
  unfolding atom
  atom-iff = (to, from)
    where
      single : Bool
      single = on_side boxes s b && not (is_group byte)

      to : T (single && not (outer rows b)) → T (on_side boxes s b) × (T (is_group byte) → ⊥) × (T (outer rows b) → ⊥)
      to t =
          let p = and_T single (not (outer rows b)) t in
          let q = and_T (on_side boxes s b) (not (is_group byte)) p.0 in
          (q.0, T_not (is_group byte) q.1, T_not (outer rows b) p.1)

      from : T (on_side boxes s b) × (T (is_group byte) → ⊥) × (T (outer rows b) → ⊥) → T (single && not (outer rows b))
      from h = T_and single (not (outer rows b)) (T_and (on_side boxes s b) _ h.0 (not_T (is_group byte) h.1)) (not_T (outer rows b) h.2)

  -- "such a box is never atomic, contained rows or not"
  pub group-never-atomic : T (is_group byte) → atom boxes rows s b ≡ false
  group-never-atomic g = not-false (atom boxes rows s b) (λ t. (atom-iff.0 t).1 g)

  -- where check 3 passes, the byte of an atomic box is that of its side, 0 or 1
  pub atom-byte : byte ≤ 3 → T (atom boxes rows s b) → byte ≡ s
  unfolding is_group side_of
  atom-byte h t =
      let p = atom-iff.0 t in
      let e = on_side-side boxes s b p.0 in
      go byte h p.1 ∙ e
    where
      go : (n : ℕ) → n ≤ 3 → (T (is_group n) → ⊥) → n ≡ side_of n
      go zero h g = refl
      go (suc zero) h g = refl
      go (suc (suc zero)) h g = absurd (g tt)
      go (suc (suc (suc zero))) h g = absurd (g tt)
      go (suc (suc (suc (suc n)))) h g = absurd (omega arith)

  -- without groups and folders it is as in document 01: a box that is the outer one of no row
  pub atom-without-groups : (T (is_group byte) → ⊥) → atom boxes rows s b ≡ (on_side boxes s b && not (outer rows b))
  unfolding atom
  atom-without-groups g = rw (not-false (is_group byte) g, and-true)

-- Box tables that agree on sides, and on user groups and folders wherever a box is the outer one of no row: a box that holds something
-- may be drawn as a group or folder or not.
pub record SameBoxes (boxes others rows : List ℕ) : Type 0 where
  pub lengths : length boxes ≡ length others
  pub sides-of : (b : ℕ) → side_of (get_or boxes b 0) ≡ side_of (get_or others b 0)
  pub groups_of : (b : ℕ) → (T (outer rows b) → ⊥) → is_group (get_or boxes b 0) ≡ is_group (get_or others b 0)

module _ (boxes others rows : List ℕ) (same : SameBoxes boxes others rows) where
  same-on_side : (s b : ℕ) → on_side boxes s b ≡ on_side others s b
  unfolding on_side
  same-on_side s b = rw (same.lengths, same.sides-of b)

  same-atom : (s b : ℕ) → atom boxes rows s b ≡ atom others rows s b
  unfolding atom
  same-atom s b = go (T? (outer rows b))
    where
      go : Dec (T (outer rows b)) → atom boxes rows s b ≡ atom others rows s b
      go (yes o) = rw (T_true (outer rows b) o, and-false, and-false)
      go (no n) = rw (same-on_side s b, same.groups_of b n)

  -- they have the same atomic boxes
  pub atoms-by-bytes : (s : ℕ) → atoms boxes rows s ≡ atoms others rows s
  unfolding atoms
  atoms-by-bytes s = rw same.lengths (ap (λ (p : ℕ → Bool). select p (length others)) (fun_ext (same-atom s)))

  -- and, where check 3 passes both, the same faults by 1 to 7
  pub faults-by-bytes : (arrows : List ℕ) → byte_fault boxes ≡ byte_fault others → table_fault (picture boxes rows arrows) ≡ table_fault (picture others rows arrows)
  unfolding table_fault names_no_box across_sides wrong_ends
  faults-by-bytes arrows e = simp (same.lengths, e, same.sides-of, same-on_side)
