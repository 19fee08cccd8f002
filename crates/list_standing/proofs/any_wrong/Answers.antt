-- `list_standing::any_wrong` meets its contract: one user for whom it would is enough. Assumes nothing.
use Rattle.std.proofs.Common.{rules}
use Rattle.list_standing.specs.Steps.{some_in, wrong_at}
use Rattle.list_standing.proofs.SomeLaws.{row_in}
use Rattle.list_standing.proofs.any_wrong.Goals as goal

pub returns : goal.returns
unfolding some_in
returns c = let a = c.args in
    c.any_of.ensures (λ u. row_in a.files (wrong_at a.left.now a.granted.now a.sign u)) (λ u b l said. search rules)
