-- The numbers of the record are those of its row. Assumes nothing.
use Rattle.std.proofs.Common.{rules}
use Rattle.blocks.proofs.RowLaws.{containment-numbers}
use Rattle.block_files.proofs.rows.ContainmentRecordRow.put.Goals as goal

pub returns : goal.returns
returns c = rw (containment-numbers, ← c.at-record.ensures) (search rules)
