-- Head, records, filler and check, one behind the other (`block_made`). Assumes nothing.
use Rattle.std.proofs.Common.{ℕ, refl, arith, rules}
use Rattle.packer.specs.Kinds.{kind_of}
use Rattle.packer.proofs.KindLaws.{Sized, sized, used-most, run_of}
use Rattle.packer.proofs.Writing.{block_made}
use Rattle.packer.proofs.put_block.Given.{Over}
use Rattle.packer.proofs.put_block.Goals as goal

-- the laws of the kind's type
known : (g : Over) (first : ℕ) (table : _)
    → Sized (kind_of g.R.Record.KIND g.R.Record.SIZE g.R.Record.CAPACITY (g.R.Written.rows table) first (g.R.Written.bytes table))
known g first table = sized g.met.R.Record.kind_is g.met.R.Record.size_is g.met.R.Record.capacity_is (g.met.R.Written.bytes_length table)

pub put_records-next-requires : goal.put_records-next-requires
put_records-next-requires g c =
    run_of (known g c.args.first c.args.table.now) c.requires refl (search rules)

pub overflow_mul-used : goal.overflow_mul-used
overflow_mul-used g c =
    rw c.SIZE.ensures (omega (arith, used-most (known g c.args.first c.args.table.now) c.requires))

pub overflow_sub-used : goal.overflow_sub-used
overflow_sub-used g c =
    rw c.SIZE.ensures (used-most (known g c.args.first c.args.table.now) c.requires)

pub overflow_add-at-3 : goal.overflow_add-at-3
overflow_add-at-3 g c =
    rw c.SIZE.ensures (omega (arith, used-most (known g c.args.first c.args.table.now) c.requires, c.requires.the_block))

pub put_zeros-requires : goal.put_zeros-requires
put_zeros-requires g c =
    let u = used-most (known g c.args.first c.args.table.now) c.requires in
    let m = c.requires.room in
    rw c.SIZE.ensures (search rules)

pub returns-clause-file_after : goal.returns-clause-file_after
returns-clause-file_after g c =
    block_made _ (known g c.args.first c.args.table.now) c.requires refl (rw c.KIND.ensures at c.put_head.ensures) c.put_records-next.ensures.file_after
    (rw c.SIZE.ensures at c.put_zeros.ensures) c.put_check.ensures
