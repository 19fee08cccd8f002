-- `list_order::open_from` meets its contract: what is not found in the rest is marked. Assumes nothing.
use mathlib.Core.Path.{sym, ◌∙◌}
use native.Mathlib.Omega.{arith}
use Rattle.list_order.proofs.MarkLaws.{open-some, open-none}
use Rattle.list_order.proofs.open_from.Goals as goal

pub returns-in-Some : goal.returns-in-Some
returns-in-Some c = let a = c.args in open-some a.done.now a.from c.in-Some.k (sym c.first_open.ensures ∙ c.in-Some.is)

pub returns-in-None : goal.returns-in-None
returns-in-None c = let a = c.args in (omega arith, open-none a.done.now a.from (sym c.first_open.ensures ∙ c.in-None.is))
