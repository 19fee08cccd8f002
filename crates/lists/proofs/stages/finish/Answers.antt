-- `lists::stages::finish` meets its contract, by what check 13 found. Assumes nothing.
use mathlib.Core.Path.{◌≡◌, sym, ◌∙◌}
use mathlib.Core.List.{◌++◌}
use borrow.Author.Rules.{rules}
use lib.ListN.{drop, replicate}
use Rattle.base.specs.Buffers.{written}
use Rattle.base.proofs.BufferLaws.{filled-first}
use Rattle.tables.specs.Rows.{no_arrow}
use Rattle.tables.proofs.Verdicts.{passed, refused}
use Rattle.list_meaning.specs.Greedy.{order_fault}
use Rattle.list_meaning.proofs.CallLaws.{finish-written, finish-refused}
use Rattle.lists.proofs.stages.finish.Goals.{After-fill}
use Rattle.lists.proofs.stages.finish.Goals as goal

pub returns-in-Ok : goal.returns-in-Ok
returns-in-Ok c pic m old verdict counted need room listed =
    let a = c.args in
    finish-written pic m a.count a.out.now old counted listed (passed (order_fault pic m) (sym verdict ∙ c.in-Ok.is))

filled : (c : After-fill) → c.fill.new.self ++ drop c.args.need c.args.out.now ≡ written (replicate c.args.need no_arrow) c.args.out.now
filled c =
    let set : c.fill.new.self ≡ replicate c.args.need no_arrow = search rules in
    filled-first no_arrow c.args.need c.fill.new.self c.args.out.now set

pub returns-in-Err : goal.returns-in-Err
returns-in-Err c pic m old verdict counted need room listed =
    let a = c.args in
    rw (filled (goal.at.returns-in-Err c).After-fill)
    (finish-refused pic m a.count a.out.now old counted listed _ (refused (order_fault pic m) _ (sym verdict ∙ c.in-Err.is))
    a.need need room)
