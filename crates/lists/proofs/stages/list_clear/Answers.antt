-- `lists::stages::list_clear` meets its contract: the list is ordered, checked and finished. Assumes nothing.
use mathlib.Core.Path.{ap, ◌∙◌}
use Rattle.base.proofs.BufferLaws.{zeros-is}
use mathlib.Core.List.{List}
use lib.ListN.{length}
use Rattle.meaning.specs.Meaning.{mode_arrows}
use Rattle.lists.proofs.stages.list_clear.Goals as goal

pub fill_left-requires : goal.fill_left-requires
fill_left-requires c = (c.requires.users, c.filled-left.ensures ∙ zeros-is 1024)

pub returns : goal.returns
returns c pic clear ready =
    let a = c.args in
    let m = a.asked.mode in
    let o = c.order-count.ensures pic m clear (c.fill_left.ensures pic a.closure.now a.arrows.now ready) in
    c.finish.ensures pic m a.out.now
    (c.check_left-verdict.ensures pic a.closure.now a.arrows.now a.asked.files ready clear.says o.shown)
    o.counted
    (c.mode_count.ensures ∙ ap (λ (xs : List _). length (mode_arrows xs m)) clear.arrows-are)
    (rw c.mode_count.ensures c.requires.own_in_bounds.1)
    o.listed
