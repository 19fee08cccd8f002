-- The numbers of the record are those of its row. Assumes nothing.
use Rattle.blocks.proofs.RowLaws.{box-numbers}
use Rattle.block_files.proofs.rows.BoxRecordRow.put.Goals as goal

pub returns : goal.returns
returns c = rw (box-numbers, ← c.at.ensures)
