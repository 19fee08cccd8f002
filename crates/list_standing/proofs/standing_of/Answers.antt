-- `list_standing::standing_of` meets its contract, by what was found. Assumes nothing.
use mathlib.Core.Path.{sym, ◌∙◌}
use borrow.Author.Rules.{rules}
use Rattle.list_standing.specs.Steps.{standing_of}
use Rattle.list_standing.proofs.StandLaws.{stands-spent}
use Rattle.list_standing.proofs.standing_of.Goals as goal

pub returns-then-not-any_left : goal.returns-then-not-any_left
returns-then-not-any_left c =
    let a = c.args in
    stands-spent a.users a.files a.left.now a.granted.now a.sign
    (sym c.any_left.ensures ∙ c.if-not-any_left.true)

pub returns-then-any_wrong : goal.returns-then-any_wrong
unfolding standing_of
returns-then-any_wrong c = search rules

pub returns : goal.returns
unfolding standing_of
returns c = search rules
