-- `list_standing::look` meets its contract: the sets of the arrow's ends. Assumes nothing.
use borrow.Author.Rules.{rules}
use Rattle.list_standing.specs.Steps.{standing_by}
use Rattle.list_standing.proofs.look.Goals as goal

pub returns : goal.returns
unfolding standing_by
returns c = search rules
