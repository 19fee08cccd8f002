-- `list_standing::has_left` meets its contract: the set that is looked at has the user's files that are left. Assumes nothing.
use mathlib.Core.Path.{ap, ◌∙◌}
use mathlib.Core.Bool.{not}
use Rattle.boxsets.specs.Sets.{has}
use Rattle.boxsets.proofs.TableLaws.{has_in}
use Rattle.list_standing.proofs.SomeLaws.{row-empty}
use Rattle.list_standing.proofs.has_left.Goals as goal

pub returns : goal.returns
returns c =
    let a = c.args in
    ap not c.is_empty.ensures
    ∙ row-empty a.files (has a.left.now a.user) c.bitand-met.result (λ f. c.bitand-met.ensures f ∙ rw (c.set_at.ensures, has_in))
