-- After so many turns as many records of the block stand in the file (`Put`). Assumes nothing.
use Rattle.std.proofs.Common.{refl, arith, rules}
use Rattle.block_parts.proofs.RecordLaws.{put-none, put-asks, put-more}
use Rattle.block_parts.proofs.records.put_records.Goals as goal

pub loop-init : goal.loop-init
loop-init g c = put-none c.requires

pub overflow_mul-SIZE : goal.overflow_mul-SIZE
overflow_mul-SIZE g c = let asks = put-asks c.loop.invariant (search rules) _ refl in rw c.SIZE.ensures (omega (arith, asks.1))

pub overflow_add-at : goal.overflow_add-at
overflow_add-at g c = let asks = put-asks c.loop.invariant (search rules) _ refl in rw c.SIZE.ensures (omega (arith, asks.1))

pub put-requires : goal.put-requires
put-requires g c = rw c.SIZE.ensures (put-asks c.loop.invariant (search rules) _ refl)

pub loop-preserved : goal.loop-preserved
loop-preserved g c =
    put-more c.loop.invariant (search rules) (g.met.R.Written.bytes_length _) _ refl
    (rw c.SIZE.ensures at c.put.ensures) (rw c.CAPACITY.ensures at c.next-w.ensures)
