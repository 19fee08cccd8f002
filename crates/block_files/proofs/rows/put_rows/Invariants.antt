use Rattle.std.proofs.Common.{◌≡◌, ◌*◌}
use Rattle.std.proofs.lemmas.List.Edits.{sets}
use Rattle.blocks.specs.Blocks.{row_of, joined}
use Rattle.block_files.proofs.rows.put_rows.Given as goal

abbrev pub invariant-loop-j : goal.invariant-loop-j
invariant-loop-j g l =
    g.R.Row.numbers l.table
    ≡ sets (g.R.Row.numbers l.initial.table) (g.R.Row.WIDTH * l.at) (joined (row_of g.R.Record.KIND l.block.bytes.now) l.j)
