-- The loop's invariant: the rows of the records before j are stored. Assumes nothing.
use Rattle.std.proofs.Common.{◌≡◌, ◌+◌, ◌*◌, arith}
use Rattle.blocks.specs.Blocks.{head_of, row_of}
use Rattle.blocks.specs.Steps.{count_of}
use Rattle.blocks.proofs.JoinedLaws.{joined-none}
use Rattle.blocks.proofs.Placing.{put-more}
use Rattle.blocks.proofs.RowLaws.{said-is}
use Rattle.block_files.proofs.rows.put_rows.Goals as goal

pub loop-j-init : goal.loop-j-init
loop-j-init g c = rw joined-none

pub loop-j-preserved : goal.loop-j-preserved
loop-j-preserved g c =
    let a = c.args in
    let l = c.loop-j in
    rw (c.put.ensures, c.WIDTH.ensures, l.invariant)
    (put-more (g.R.Row.numbers a.table.now) (g.R.Row.WIDTH * a.at) (row_of g.R.Record.KIND a.block.bytes.now) g.R.Row.WIDTH
    (g.met.R.Row.row_length a.block.bytes.now) l.j (g.R.Row.WIDTH * (a.at + l.j)) (omega arith))

pub returns : goal.returns
returns g c =
    let l = c.loop-j in
    let e : l.j ≡ count_of g.R.Record.KIND (head_of c.args.block.bytes.now) =
    rw (← c.requires.head_is, ← c.KIND.ensures, ← c.count_of-j-end.ensures) (omega arith) in
    rw (said-is, ← e) l.invariant
