-- `checks::across_sides` meets its contract: by the bytes, where both boxes are there. Assumes nothing.
use mathlib.Core.Path.{sym, ◌∙◌}
use Rattle.tables.proofs.FaultLaws.{across_sides-is}
use Rattle.tables.proofs.TableLaws.{boxes-there}
use Rattle.checks.proofs.across_sides.Goals as goal

pub bounds-boxes-outer : goal.bounds-boxes-outer
bounds-boxes-outer c =
    let there = boxes-there _ _ (sym c.names_no_box.ensures ∙ c.if-not-names_no_box.true) in
    rw c.from-outer.ensures there.0

pub bounds-boxes-inner : goal.bounds-boxes-inner
bounds-boxes-inner c =
    let there = boxes-there _ _ (sym c.names_no_box.ensures ∙ c.if-not-names_no_box.true) in
    rw c.from-inner.ensures there.1

pub returns-then-not-names_no_box : goal.returns-then-not-names_no_box
returns-then-not-names_no_box c =
    rw (
      across_sides-is,
      c.side_of-then-not-names_no_box.ensures,
      c.side_of.ensures,
      c.from-inner.ensures,
      c.from-outer.ensures,
      ← c.names_no_box.ensures,
      c.if-not-names_no_box.true,
    )

pub returns-else-not-names_no_box : goal.returns-else-not-names_no_box
returns-else-not-names_no_box c = rw (across_sides-is, ← c.names_no_box.ensures, c.if-not-names_no_box.false)
