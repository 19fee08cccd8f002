-- `scratch::filling::spread` meets its contract: the rows of bytes before a say what the sets have. Assumes nothing.
use mathlib.Core.Path.{◌≡◌, sym, subst}
use Prim.Native.Nat.{◌*◌}
use native.Mathlib.Omega.{arith}
use borrow.Author.Rules.{rules}
use mathlib.Core.List.{◌++◌}
use lib.ListN.{length, drop, replicate}
use Rattle.base.specs.Buffers.{written, zeros}
use Rattle.base.proofs.BufferLaws.{filled-first, zeros-is}
use Rattle.base.proofs.Index.{row_step}
use Rattle.boxsets.specs.Sets.{is_in}
use Rattle.boxsets.specs.declared.Set.{Set}
use Rattle.scratch.specs.Steps.{Ones, Room}
use Rattle.scratch.proofs.SpreadLaws.{cleared-rest, spread-begins, spread_row, spread-ends, row_room}
use Rattle.scratch.proofs.filling.spread.Goals.{After-fill}
use Rattle.scratch.proofs.filling.spread.Goals as goal

-- the places are cleared
module _ (c : After-fill) where
  cleared : c.fill.new.self ++ drop (c.args.n * c.args.n) c.args.scratch.now ≡ written (zeros (c.args.n * c.args.n)) c.args.scratch.now
  cleared =
      let n = c.args.n * c.args.n in
      let set : c.fill.new.self ≡ replicate n 0 = search rules in
      rw (← zeros-is n) (filled-first 0 n c.fill.new.self c.args.scratch.now set)

  len : length (c.fill.new.self ++ drop (c.args.n * c.args.n) c.args.scratch.now) ≡ length c.args.scratch.now
  len =
      let a = c.args in
      (cleared-rest a.n a.closure.now a.scratch.now _ c.requires.2 cleared).len

pub loop-a-init : goal.loop-a-init
loop-a-init c = (
  search rules,
  omega (arith, len (goal.at.loop-a-init c).After-fill),
  spread-begins c.args.n c.args.closure.now c.args.scratch.now _ c.requires.2 (cleared (goal.at.loop-a-init c).After-fill),
)

pub overflow_mul-a : goal.overflow_mul-a
overflow_mul-a c =
    omega (arith, row_step c.args.n c.loop-a.a c.args.n (omega arith))

pub spread_set-requires : goal.spread_set-requires
spread_set-requires c =
    subst (λ (z : Set). Room (is_in z) (c.loop-a.a * c.args.n) c.loop-a.scratch) (sym c.set_at-x.ensures)
    (row_room c.args.n c.loop-a.a c.args.closure.now c.loop-a.scratch (omega arith) c.requires.1 c.loop-a.invariant.1)

pub loop-a-preserved : goal.loop-a-preserved
loop-a-preserved c =
    let kept = c.spread_set.ensures.len in (
      search rules,
      omega arith,
      spread_row c.args.n c.loop-a.a c.args.closure.now _ c.loop-a.scratch c.spread_set.new.scratch
          (omega arith) c.requires.1 c.loop-a.invariant.2
          (subst (λ (z : Set). Ones (is_in z) (c.loop-a.a * c.args.n) c.loop-a.scratch c.spread_set.new.scratch) c.set_at-x.ensures
          c.spread_set.ensures),
    )

pub shape_of-scratch : goal.shape_of-scratch
shape_of-scratch c =
    omega (arith, len (goal.at.shape_of-scratch c).After-fill, c.loop-a.invariant.2.same.len)

pub returns : goal.returns
returns c =
    let e : c.loop-a.a ≡ c.args.n = omega arith in record {
      cells = (spread-ends c.args.n c.args.closure.now c.args.scratch.now _ c.requires.2 (cleared (goal.at.returns c).After-fill)
          c.loop-a.scratch (rw e at c.loop-a.invariant.2)).0;
      same_from = (spread-ends c.args.n c.args.closure.now c.args.scratch.now _ c.requires.2 (cleared (goal.at.returns c).After-fill)
          c.loop-a.scratch (rw e at c.loop-a.invariant.2)).1;
    }
