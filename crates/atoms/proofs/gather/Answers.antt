-- `atoms::gather` meets its contract: the unmarked boxes below b are written and counted. Assumes nothing.
use mathlib.Core.Path.{◌≡◌, refl, sym, ◌∙◌}
use Prim.Native.Nat.{◌≤◌, ◌<◌}
use native.Mathlib.Omega.{arith}
use borrow.Author.Rules.{rules}
use lib.ListN.{length}
use Rattle.atoms.specs.Steps.{unmarked}
use Rattle.base.proofs.BufferLaws.{selected-none, selected-length, selected-most, selected-yes, selected-no}
use Rattle.atoms.proofs.gather.Goals.{Then-is_unmarked}
use Rattle.atoms.proofs.gather.Goals.{then-is_unmarked, else-is_unmarked}
use Rattle.atoms.proofs.gather.Goals as goal

-- there is a place for the box
room : (c : Then-is_unmarked) → let l = c.loop-b in (l.count < length l.out) × (l.count ≤ 256)
room c =
    let a = c.args in
    let p = unmarked a.boxes.now a.side a.marks.now in
    let most = selected-most p a.out.now c.loop-b.b c.loop-b.count c.loop-b.out c.loop-b.invariant.1 in
    let len = selected-length p a.out.now c.loop-b.b c.loop-b.count c.loop-b.out (omega arith) c.loop-b.invariant.1 in
    (omega arith, omega arith)

pub loop-b-init : goal.loop-b-init
loop-b-init c = let a = c.args in
    (search rules, selected-none (unmarked a.boxes.now a.side a.marks.now) a.out.now)

pub offset_bounds-out-count : goal.offset_bounds-out-count
offset_bounds-out-count c = omega (arith, room c)

pub bounds-out-count : goal.bounds-out-count
bounds-out-count c = (room c).0

pub overflow_add-count : goal.overflow_add-count
overflow_add-count c = omega (arith, room c)

pub loop-b-preserved : goal.loop-b-preserved
loop-b-preserved c =
    let a = c.args in
    let p = unmarked a.boxes.now a.side a.marks.now in
    let is = c.is_unmarked.ensures in (
      search rules,
      elim c.if-is_unmarked.branch [
        | then-is_unmarked w ↦ rw (w.out-is, w.count-is) (selected-yes p a.out.now c.loop-b.b c.loop-b.count c.loop-b.out c.loop-b.b (omega arith) (sym is ∙ w.if-is_unmarked.true) refl c.loop-b.invariant.1)
        | else-is_unmarked w ↦ rw (w.out-is, w.count-is) (selected-no p a.out.now c.loop-b.b c.loop-b.count c.loop-b.out (sym is ∙ w.if-is_unmarked.false) c.loop-b.invariant.1)
      ],
    )

pub shape_of-out : goal.shape_of-out
shape_of-out c =
    let a = c.args in
    selected-length (unmarked a.boxes.now a.side a.marks.now) a.out.now c.loop-b.b c.loop-b.count c.loop-b.out (omega arith) c.loop-b.invariant.1

pub returns : goal.returns
returns c =
    let e : c.loop-b.b ≡ length c.args.boxes.now = omega arith in
    let w = rw e at c.loop-b.invariant.1 in
    record { value = w.0; out_after = w.1 }
