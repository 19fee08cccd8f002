-- `containment::closing::close` meets its contract: the sets say which ways there are through boxes below k. Assumes nothing.
use mathlib.Core.Path.{◌≡◌}
use native.Mathlib.Omega.{arith}
use borrow.Author.Rules.{rules}
use Rattle.containment.proofs.ClosingLaws.{rounds-none, rounds-more}
use Rattle.containment.proofs.closing.close.Goals as goal

pub loop-k-init : goal.loop-k-init
loop-k-init c = (search rules, rounds-none _)

pub loop-k-preserved : goal.loop-k-preserved
loop-k-preserved c =
    let first = c.args.closure.now in
    (search rules, rounds-more c.loop-k.k first c.loop-k.closure c.round.new.closure c.loop-k.invariant.1 c.round.ensures)

pub returns : goal.returns
returns c =
    let e : c.loop-k.k ≡ c.args.n = omega arith in
    rw e at c.loop-k.invariant.1
