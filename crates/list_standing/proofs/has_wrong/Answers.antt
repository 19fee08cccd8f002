-- `list_standing::has_wrong` meets its contract: the set that is looked at has the user's files that would be wrong. Assumes nothing.
use mathlib.Core.Path.{ap, ◌∙◌}
use mathlib.Core.Bool.{not}
use Rattle.boxsets.proofs.TableLaws.{has_in}
use Rattle.list_standing.specs.Steps.{wrong_at}
use Rattle.list_standing.proofs.SomeLaws.{row-empty}
use Rattle.list_standing.proofs.StandLaws.{wrong-are}
use Rattle.list_standing.proofs.has_wrong.Goals as goal

pub returns : goal.returns
returns c =
    let a = c.args in
    ap not c.is_empty.ensures
    ∙ row-empty a.files (wrong_at a.left.now a.granted.now a.sign a.user) c.wrong_of-wrong.result
    (wrong-are a.files c.bitand-met.result c.wrong_of-wrong.result a.left.now a.granted.now a.sign a.user
    (λ f. c.bitand-met.ensures f ∙ rw (c.set_at.ensures, has_in))
    (λ f. c.wrong_of-wrong.ensures f ∙ rw (c.set_at-2.ensures, has_in)))
