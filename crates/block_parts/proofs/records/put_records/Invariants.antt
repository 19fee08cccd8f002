use Rattle.block_parts.proofs.RecordLaws.{Put}
use Rattle.block_parts.proofs.records.put_records.Given as goal

abbrev pub invariant-loop : goal.invariant-loop
invariant-loop g l =
    Put g.R.Record.SIZE g.R.Record.CAPACITY (g.R.Written.rows l.table) (g.R.Written.bytes l.table) l.at l.initial.file l.initial.w l.count l.counter l.file l.w
