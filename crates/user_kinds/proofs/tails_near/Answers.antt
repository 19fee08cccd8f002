-- `user_kinds::tails_near` meets its contract. Assumes nothing.
use Rattle.user_kinds.proofs.AlikeLaws.{near-made}
use Rattle.user_kinds.proofs.tails_near.Goals as goal

pub returns : goal.returns
returns c =
    let a = c.args in
    λ pic m d sets there.
    near-made pic m a.closure.now a.heads.now d sets a.user there c.set_at-3.result c.set_at.result c.set_at-2.result
    c.bitor-tails.result c.bitand.result c.set_at-3.ensures c.set_at.ensures c.set_at-2.ensures c.bitor-tails.ensures
    c.bitand.ensures
