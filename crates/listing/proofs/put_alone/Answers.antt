-- `listing::put_alone` meets its contract: the line is put at the start. Assumes nothing.
use native.Mathlib.Omega.{arith}
use Rattle.lines.proofs.PutLaws.{at-start}
use Rattle.listing.proofs.put_alone.Goals as goal

pub returns : goal.returns
returns c =
    at-start c.args.out.now c.put_line.new.out _ 111 c.put_line.result (omega arith) c.put_line.ensures
