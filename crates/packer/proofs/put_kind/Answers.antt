-- After so many turns as many blocks of the kind stand in the file (`Wrote`). Assumes nothing.
use Rattle.std.proofs.Common.{ℕ, ◌∙◌, rules}
use Rattle.packer.proofs.Taking.{least-of}
use Rattle.packer.specs.Kinds.{kind_of}
use Rattle.packer.proofs.KindLaws.{Sized, sized}
use Rattle.packer.proofs.Writing.{wrote_none, next-begins, wrote-more}
use Rattle.packer.proofs.put_kind.Given.{Over}
use Rattle.packer.proofs.put_kind.Goals as goal

-- the laws of the kind's type
known : (g : Over) (first : ℕ) (table : _)
    → Sized (kind_of g.R.Record.KIND g.R.Record.SIZE g.R.Record.CAPACITY (g.R.Written.rows table) first (g.R.Written.bytes table))
known g first table = sized g.met.R.Record.kind_is g.met.R.Record.size_is g.met.R.Record.capacity_is (g.met.R.Written.bytes_length table)

pub loop-init : goal.loop-init
loop-init g c = wrote_none _ _ _ _ c.start-walk.ensures

pub put_block-walk-requires : goal.put_block-walk-requires
put_block-walk-requires g c =
    next-begins (known g c.args.first c.args.table.now) c.requires c.loop.invariant (search rules)
    (rw (c.rows.ensures, c.CAPACITY.ensures) at (c.min-count.ensures ∙ least-of _ _))

pub loop-preserved : goal.loop-preserved
loop-preserved g c =
    wrote-more (known g c.args.first c.args.table.now) c.requires c.loop.invariant (search rules)
    (rw (c.rows.ensures, c.CAPACITY.ensures) at (c.min-count.ensures ∙ least-of _ _))
    c.put_block-walk.ensures.value c.put_block-walk.ensures.file_after
