use Rattle.packer.specs.Kinds.{kind_of}
use Rattle.packer.proofs.Writing.{Wrote}
use Rattle.packer.proofs.put_kind.Given as goal

abbrev pub invariant-loop : goal.invariant-loop
invariant-loop g l =
    Wrote (kind_of g.R.Record.KIND g.R.Record.SIZE g.R.Record.CAPACITY (g.R.Written.rows l.table) l.first (g.R.Written.bytes l.table))
    l.initial.file l.blocks l.counter l.file l.walk
