-- The kinds are those of the definition. Assumes nothing.
use Rattle.std.proofs.Common.{rules}
use Rattle.blocks.specs.Blocks.{by_kind, record_size}
use Rattle.blocks.proofs.records.Kind.size.Goals as goal

pub returns-in-Boxes : goal.returns-in-Boxes
unfolding by_kind record_size
returns-in-Boxes c = search rules

pub returns-in-Containments : goal.returns-in-Containments
unfolding by_kind record_size
returns-in-Containments c = search rules

pub returns-in-Arrows : goal.returns-in-Arrows
unfolding by_kind record_size
returns-in-Arrows c = search rules
