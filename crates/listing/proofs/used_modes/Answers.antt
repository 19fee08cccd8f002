-- `listing::used_modes` meets its contract: the modes so far with an arrow stand at the start. Assumes nothing.
use mathlib.Core.Path.{◌≡◌, refl, ◌∙◌, sym}
use Prim.Native.Nat.{◌≤◌, ◌<◌}
use lib.ListN.{length}
use Rattle.base.proofs.BufferLaws.{selected-none, selected-length, selected-most, selected-yes, selected-no}
use Rattle.listing.specs.Listing.{used}
use Rattle.listing.specs.PairRows.{used_modes}
use native.Mathlib.Omega.{arith}
use borrow.Author.Rules.{rules}
use Rattle.listing.proofs.used_modes.Goals.{Then-is_used, then-is_used, else-is_used}
use Rattle.listing.proofs.used_modes.Goals as goal

-- there is a place for the mode
room : (c : Then-is_used) → let l = c.loop-m in (l.count < length l.out) × (l.count ≤ 8)
room c =
    let a = c.args in
    let l = c.loop-m in
    let p = used a.arrows.now in
    let most = selected-most p a.out.now l.m l.count l.out l.invariant.1 in
    let len = selected-length p a.out.now l.m l.count l.out (omega arith) l.invariant.1 in
    (omega arith, omega arith)

pub loop-m-init : goal.loop-m-init
loop-m-init c = (search rules, selected-none (used c.args.arrows.now) c.args.out.now)

pub offset_bounds-out-count : goal.offset_bounds-out-count
offset_bounds-out-count c = omega (arith, room c)

pub bounds-out-count : goal.bounds-out-count
bounds-out-count c = (room c).0

pub overflow_add-count : goal.overflow_add-count
overflow_add-count c = omega (arith, room c)

pub loop-m-preserved : goal.loop-m-preserved
loop-m-preserved c =
    let a = c.args in
    let l = c.loop-m in
    let p = used a.arrows.now in
    let told = sym c.is_used.ensures in (
      search rules,
      elim c.if-is_used.branch [
        | then-is_used w ↦ rw (w.count-is, w.out-is)
            (selected-yes p a.out.now l.m l.count l.out l.m (omega arith) (told ∙ w.if-is_used.true) refl l.invariant.1)
        | else-is_used w ↦ rw (w.count-is, w.out-is) (selected-no p a.out.now l.m l.count l.out (told ∙ w.if-is_used.false) l.invariant.1)
      ],
    )

pub shape_of-out : goal.shape_of-out
shape_of-out c =
    let l = c.loop-m in
    let a = c.args in
    selected-length (used a.arrows.now) a.out.now l.m l.count l.out (omega arith) l.invariant.1

pub returns : goal.returns
unfolding used_modes
returns c = let e : c.loop-m.m ≡ 8 = omega arith in let w = rw e at c.loop-m.invariant.1 in
    record {
      value = w.0;
      out_after = w.1;
    }
