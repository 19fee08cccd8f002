-- One byte. Assumes nothing.
use Rattle.packing.proofs.PackedLaws.{box-is}
use Rattle.block_parts.proofs.records.BoxRecordWritten.put.Goals as goal

pub returns : goal.returns
returns c = rw box-is
