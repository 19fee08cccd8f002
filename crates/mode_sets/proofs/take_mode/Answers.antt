-- `mode_sets::take_mode` meets its contract: of the arrows before k the sets are made, and those that repeat no lower one are
-- written and counted. Assumes nothing.
use mathlib.Core.Path.{◌≡◌, refl}
use Prim.Native.Nat.{◌≤◌, ◌<◌}
use native.Mathlib.Omega.{arith}
use borrow.Author.Rules.{rules}
use lib.ListN.{length}
use Rattle.base.proofs.BufferLaws.{selected-none, selected-length, selected-most}
use Rattle.tables.specs.Rows.{arrow_count}
use Rattle.mode_sets.specs.Mode.{is_own, own_arrows}
use Rattle.mode_sets.proofs.ModeLaws.{sets-none, turn-other, turn-repeat, turn-own}
use Rattle.mode_sets.proofs.take_mode.Goals.{Then-take_arrow, then-a-mode+then-take_arrow, else-a-mode, else-a-mode-via-then-a-mode+else-take_arrow, else-a-mode-via-else-a-mode}
use Rattle.mode_sets.proofs.take_mode.Goals as goal

-- there is a place for the number
room : (c : Then-take_arrow) →
    (c.loop-k.count < length c.loop-k.own) × (c.loop-k.count ≤ 512)
room c =
    let a = c.args in
    let l = c.loop-k in
    let p = is_own a.arrows.now a.mode in
    let most = selected-most p a.own.now l.k l.count l.own l.invariant.1.0 in
    let len = selected-length p a.own.now l.k l.count l.own (omega arith) l.invariant.1.0 in
    (omega arith, omega arith)

pub loop-k-init : goal.loop-k-init
loop-k-init c =
    let a = c.args in (
      search rules,
      (selected-none (is_own a.arrows.now a.mode) a.own.now, rw c.requires.2 (sets-none a.arrows.now a.mode)),
    )

pub offset_bounds-own-count : goal.offset_bounds-own-count
offset_bounds-own-count c = omega (arith, room c)

pub bounds-own-count : goal.bounds-own-count
bounds-own-count c = (room c).0

pub overflow_add-count : goal.overflow_add-count
overflow_add-count c = omega (arith, room c)

pub loop-k-preserved : goal.loop-k-preserved
loop-k-preserved c =
    let a = c.args in
    let l = c.loop-k in
    let arrow = c.at-a.result in
    let is = c.at-a.ensures in
    let tail = c.requires.0.tail-small l.k (omega arith) in
    let sign = c.requires.0.sign_small l.k (omega arith) in
    elim c.if-a-mode.branch [
      | then-a-mode+then-take_arrow w ↦ rw (w.own-is, w.heads-is, w.count-is) (
        search rules,
        turn-own a.arrows.now a.mode a.own.now l.k l.count l.own l.heads arrow is l.invariant.1 w.take_arrow.new.heads
            w.take_arrow.result w.if-a-mode.true tail sign w.take_arrow.ensures l.k w.if-take_arrow.true refl (omega arith),
      )
      | else-a-mode w ↦ rw (w.own-is, w.heads-is, w.count-is)
          (elim w.else-a-mode.branch [
            | else-a-mode-via-then-a-mode+else-take_arrow v ↦ rw v.heads-is (
              search rules,
              turn-repeat a.arrows.now a.mode a.own.now l.k l.count l.own l.heads arrow is l.invariant.1 v.take_arrow.new.heads
                  v.take_arrow.result v.if-a-mode.true tail sign v.take_arrow.ensures v.if-take_arrow.false,
            )
            | else-a-mode-via-else-a-mode v ↦ rw v.heads-is
                (search rules, turn-other a.arrows.now a.mode a.own.now l.k l.count l.own l.heads arrow is l.invariant.1 v.if-a-mode.false)
          ])
    ]

pub returns : goal.returns
unfolding own_arrows
returns c =
    let a = c.args in
    let e : c.loop-k.k ≡ arrow_count a.arrows.now = omega arith in
    record {
      value = rw e at c.loop-k.invariant.1.0.0;
      own_after = rw e at c.loop-k.invariant.1.0.1;
      mode_sets = rw e at c.loop-k.invariant.1.1;
    }
