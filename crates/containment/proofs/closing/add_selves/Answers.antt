-- `containment::closing::add_selves` meets its contract: the boxes before b are in their own sets. Assumes nothing.
use mathlib.Core.Path.{◌≡◌}
use native.Mathlib.Omega.{arith}
use borrow.Author.Rules.{rules}
use Rattle.containment.proofs.SelvesLaws.{selves-none, selves-more}
use Rattle.containment.proofs.closing.add_selves.Goals as goal

pub loop-b-init : goal.loop-b-init
loop-b-init c = (search rules, selves-none _)

pub add-requires : goal.add-requires
add-requires c =
    let len = c.loop-b.invariant.1.len in
    (omega arith, omega arith)

pub add-requires-in-loop-b : goal.add-requires-in-loop-b
add-requires-in-loop-b c =
    let len = c.loop-b.invariant.1.len in
    let len₁ = c.add.ensures.len in
    (omega arith, omega arith)

pub loop-b-preserved : goal.loop-b-preserved
loop-b-preserved c = (
  search rules,
  selves-more c.loop-b.b c.args.closure.now c.loop-b.closure c.add.new.t c.add-in-loop-b.new.t (omega arith)
      c.loop-b.invariant.1 c.add.ensures c.add-in-loop-b.ensures,
)

pub returns : goal.returns
returns c =
    let e : c.loop-b.b ≡ c.args.n = omega arith in
    rw e at c.loop-b.invariant.1
