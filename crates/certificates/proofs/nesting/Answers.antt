-- `certificates::nesting` meets its contract. Assumes nothing.
use mathlib.Core.Path.{◌∙◌}
use Rattle.boxsets.proofs.TableLaws.{has_in}
use Rattle.certificates.proofs.nesting.Goals as goal

pub returns : goal.returns
returns c k = c.sub.ensures k ∙ rw (c.set_at.ensures, c.set_at-2.ensures) (simp has_in)
