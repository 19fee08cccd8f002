-- `list_standing::any_left` meets its contract: one user who has a file left is enough. Assumes nothing.
use Rattle.std.proofs.Common.{rules}
use Rattle.boxsets.specs.Sets.{has}
use Rattle.list_standing.specs.Steps.{some_in}
use Rattle.list_standing.proofs.SomeLaws.{row_in}
use Rattle.list_standing.proofs.any_left.Goals as goal

pub returns : goal.returns
unfolding some_in
returns c = let a = c.args in
    c.any_of.ensures (λ u. row_in a.files (has a.left.now u)) (λ u b l said. search rules)
