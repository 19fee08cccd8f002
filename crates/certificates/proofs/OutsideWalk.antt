-- The walk of `outside_all`: the lowest box is taken from the boxes with all that is in it. Assumes nothing.
use mathlib.Core.Path.{◌≡◌, refl, sym, ap, subst, ◌∙◌}
use mathlib.Core.Bool.{Bool, true, false, not, ◌&&◌}
use mathlib.Core.List.{List}
use Prim.Native.Nat.{ℕ, ◌+◌, ◌-◌, ◌<◌, ◌≤◌}
use native.Mathlib.Omega.{arith}
use native.Mathlib.Decide.{dec_lt}
use lib.Dec.{T, T_not, not_T, eqb, eqb→eq}
use lib.ListN.{length}
use Rattle.base.proofs.Tests.{and_T, T_and, T-same}
use Rattle.boxsets.specs.Sets.{is_in, low, set_at}
use Rattle.boxsets.specs.declared.Set.{Set}
use Rattle.boxsets.proofs.TableLaws.{has_in}
use Rattle.boxsets.proofs.LowLaws.{low-in, low-least, none_in}
use Rattle.boxsets.proofs.WalkLaws.{low-most}
use Rattle.tables.specs.Rows.{Picture}
use Rattle.containment.specs.Contains.{around}
use Rattle.containment.proofs.ContainsLaws.{around-self}
use Rattle.certificates.specs.Blocks.{in_one}
use Rattle.certificates.specs.Steps.{Drawn}
use Rattle.certificates.proofs.OutsideLaws.{in-none, outside-turn}

-- a set within another that lacks its lowest number has a higher one
pub low-falls : (x y : Set) → ((k : ℕ) → T (is_in y k) → T (is_in x k) × (k ≡ low x → ⊥)) → low x < 256 → 256 - low y < 256 - low x
low-falls x y within there = go (dec_lt (low x) (low y)) (low-in y)
  where
    go : Dec (low x < low y) → (low y < 256 → T (is_in y (low y))) → 256 - low y < 256 - low x
    go (yes l) in-y = omega arith
    go (no n) in-y =
        let p = within (low y) (in-y (omega arith)) in
        let other = p.1 in
        absurd (low-least x (low y) (omega arith) p.0)

module _ (closure : List ℕ) (files boxes : Set) where
  -- what is left of the files, less what is in the rest of the boxes, stays the same, and each turn took the lowest box
  abbrev pub Kept : ℕ → Set → Set → Type 0
  Kept turn left rest =
      ((b : ℕ) → T (is_in rest b) → T (is_in boxes b))
      × ((pic : Picture) → Drawn pic closure → ((b : ℕ) → T (is_in boxes b) → b < length pic.boxes)
      → (turn ≤ low rest)
      × ((f : ℕ) → (is_in left f && not (in_one pic (is_in rest) f)) ≡ (is_in files f && not (in_one pic (is_in boxes) f))))

  -- one turn
  module _ (turn : ℕ) (left rest gone next over : Set) (there : low rest < 256) (lowest-there : T (is_in rest (low rest)))
      (read : gone ≡ set_at closure (low rest)) (taken : (k : ℕ) → is_in next k ≡ (is_in rest k && not (is_in gone k)))
      (taken-left : (k : ℕ) → is_in over k ≡ (is_in left k && not (is_in gone k))) where
    within : (k : ℕ) → T (is_in next k) → T (is_in rest k) × T (not (is_in gone k))
    within k t = and_T (is_in rest k) (not (is_in gone k)) (subst T (taken k) t)

    module _ (pic : Picture) (d : Drawn pic closure) (bound : low rest < length pic.boxes) where
      -- what the lowest box has
      here : (k : ℕ) → is_in gone k ≡ around pic.rows (low rest) k
      here k = ap (λ (x : Set). is_in x k) read ∙ sym (has_in closure (low rest) k) ∙ d.closed.down (low rest) k bound

      not-lowest : (k : ℕ) → T (is_in next k) → k ≡ low rest → ⊥
      not-lowest k t e =
          T_not (is_in gone k) (within k t).1
          (rw e (subst T (sym (here (low rest))) (around-self pic.rows (low rest))))

      next-is : (k : ℕ) → is_in next k ≡ ((is_in rest k && not (eqb k (low rest))) && not (around pic.rows (low rest) k))
      next-is k =
          T-same (is_in next k) ((is_in rest k && not (eqb k (low rest))) && not (around pic.rows (low rest) k))
          (λ t.
          T_and (is_in rest k && not (eqb k (low rest))) (not (around pic.rows (low rest) k))
          (T_and (is_in rest k) (not (eqb k (low rest))) (within k t).0
          (not_T (eqb k (low rest)) (λ e. not-lowest k t (eqb→eq k (low rest) e))))
          (rw (here k) at (within k t).1))
          (λ t.
          let a = and_T (is_in rest k && not (eqb k (low rest))) (not (around pic.rows (low rest) k)) t in
          let b = and_T (is_in rest k) (not (eqb k (low rest))) a.0 in
          subst T (sym (taken k)) (T_and (is_in rest k) (not (is_in gone k)) b.0 (rw (here k) a.1)))

    pub kept-turn : Kept turn left rest → Kept (turn + 1) over next
    kept-turn kept = (λ b t. kept.0 b (within b t).0, turned)
      where
        turned : (pic : Picture) → Drawn pic closure → ((b : ℕ) → T (is_in boxes b) → b < length pic.boxes)
            → (turn + 1 ≤ low next)
            × ((f : ℕ) → (is_in over f && not (in_one pic (is_in next) f)) ≡ (is_in files f && not (in_one pic (is_in boxes) f)))
        turned pic d bounds =
            let bound = bounds (low rest) (kept.0 (low rest) lowest-there) in
            let before = kept.1 pic d bounds in (
              omega (arith, before.0, low-falls rest next (λ k t. ((within k t).0, not-lowest pic d bound k t)) there),
              λ f.
                  ap (λ (b : Bool). b && not (in_one pic (is_in next) f))
                  (taken-left f ∙ ap (λ (b : Bool). is_in left f && not b) (here pic d bound f))
                  ∙ outside-turn pic (is_in rest) (is_in next) (low rest) bound lowest-there (next-is pic d bound) (is_in left f) f
                  ∙ before.1 f,
            )

  -- nothing is left of the boxes, or of the files
  pub kept-boxes : (turn : ℕ) (left rest : Set) → Kept turn left rest → ((k : ℕ) → is_in rest k ≡ false)
      → (pic : Picture) → Drawn pic closure → ((b : ℕ) → T (is_in boxes b) → b < length pic.boxes)
      → (f : ℕ) → is_in left f ≡ (is_in files f && not (in_one pic (is_in boxes) f))
  kept-boxes turn left rest kept e pic d there f =
      sym (rw (in-none pic (is_in rest) e f) (and_yes (is_in left f))) ∙ (kept.1 pic d there).1 f
    where
      and_yes : (b : Bool) → (b && true) ≡ b
      and_yes true = refl
      and_yes false = refl

  pub kept-files : (turn : ℕ) (left rest : Set) → Kept turn left rest → ((k : ℕ) → is_in left k ≡ false)
      → (pic : Picture) → Drawn pic closure → ((b : ℕ) → T (is_in boxes b) → b < length pic.boxes)
      → (f : ℕ) → is_in left f ≡ (is_in files f && not (in_one pic (is_in boxes) f))
  kept-files turn left rest kept e pic d there f =
      e f ∙ ap (λ (b : Bool). b && not (in_one pic (is_in rest) f)) (sym (e f)) ∙ (kept.1 pic d there).1 f

  -- after 256 turns there is no box left
  pub kept-end : (turn : ℕ) (left rest : Set) → 256 ≤ turn → Kept turn left rest
      → (pic : Picture) → Drawn pic closure → ((b : ℕ) → T (is_in boxes b) → b < length pic.boxes)
      → (f : ℕ) → is_in left f ≡ (is_in files f && not (in_one pic (is_in boxes) f))
  kept-end turn left rest all kept pic d there =
      kept-boxes turn left rest kept (none_in rest (omega (arith, low-most rest, (kept.1 pic d there).0))) pic d there
