-- The bytes are those of the row. Assumes nothing.
use Rattle.std.proofs.Common.{rules}
use Rattle.blocks.specs.Blocks.{by_kind, record_size, row_of}
use Rattle.blocks.specs.Steps.{arrow_record}
use Rattle.blocks.proofs.records.ArrowRecordRecord.at.Goals as goal

pub returns : goal.returns
unfolding by_kind record_size row_of arrow_record
returns c = search rules
