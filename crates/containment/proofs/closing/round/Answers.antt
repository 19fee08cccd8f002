-- `containment::closing::round` meets its contract: each box above k gets what k has, and each box below it what has k. Assumes nothing.
use mathlib.Core.Path.{◌≡◌, sym, ◌∙◌}
use Prim.Native.Nat.{◌+◌}
use Rattle.boxsets.specs.Sets.{set_at}
use Rattle.boxsets.proofs.WalkLaws.{empty-none}
use Rattle.containment.proofs.ClosingLaws.{round-down, round_up, round-joined}
use Rattle.containment.proofs.closing.round.Goals.{After-set_at-up}
use Rattle.containment.proofs.closing.round.Goals as goal

-- the two sets of box k are read
module _ (c : After-set_at-up) where
  down_is : c.set_at-down.result ≡ set_at c.args.closure.now c.args.k
  down_is = c.set_at-down.ensures

  up_is : c.set_at-up.result ≡ set_at c.args.closure.now (256 + c.args.k)
  up_is = c.set_at-up.ensures

pub returns-then-is_empty : goal.returns-then-is_empty
returns-then-is_empty c =
    let a = c.args in
    round-down a.k a.closure.now c.requires
    (rw (down_is (goal.at.returns-then-is_empty c).After-set_at-up) at (empty-none c.set_at-down.result (sym c.is_empty.ensures ∙ c.if-is_empty.true)))

pub returns-then-is_empty-2 : goal.returns-then-is_empty-2
returns-then-is_empty-2 c =
    let a = c.args in
    round_up a.k a.closure.now c.requires
    (rw (up_is (goal.at.returns-then-is_empty-2 c).After-set_at-up) at (empty-none c.set_at-up.result (sym c.is_empty-2.ensures ∙ c.if-is_empty-2.true)))

pub returns : goal.returns
returns c =
    let a = c.args in
    round-joined a.k a.closure.now c.requires c.set_at-down.result c.set_at-up.result (down_is (goal.at.returns c).After-set_at-up) (up_is (goal.at.returns c).After-set_at-up)
    c.join_each.new.t c.join_each-2.new.t c.join_each.ensures c.join_each-2.ensures
