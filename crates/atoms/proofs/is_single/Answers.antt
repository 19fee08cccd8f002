-- `atoms::is_single` meets its contract: a box that is on the side is there, so that its byte can be read. Assumes nothing.
use mathlib.Core.Path.{sym, ◌∙◌}
use Rattle.base.proofs.Tests.{true-T}
use Rattle.tables.proofs.GroupLaws.{on_side-there}
use Rattle.atoms.proofs.is_single.Goals as goal

pub bounds-boxes-b : goal.bounds-boxes-b
bounds-boxes-b c =
    on_side-there c.args.boxes.now _ _ (true-T _ (sym c.on_side.ensures ∙ c.if-on_side.true))

pub returns-then-on_side : goal.returns-then-on_side
returns-then-on_side c = rw (c.is_group.ensures, ← c.on_side.ensures, c.if-on_side.true)

pub returns-else-on_side : goal.returns-else-on_side
returns-else-on_side c = rw (← c.on_side.ensures, c.if-on_side.false)
