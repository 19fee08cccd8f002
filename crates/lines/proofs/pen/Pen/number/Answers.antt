-- `lines::pen::Pen::number` meets its contract: the fewest digits are the number in decimal. Assumes nothing.
use Rattle.lines.proofs.DecimalLaws.{put-decimal, few-digits}
use lib.Seq.{length-take-le}
use native.Mathlib.Omega.{arith}
use Rattle.lines.proofs.pen.Pen.number.Goals as goal

pub text-requires : goal.text-requires
text-requires c =
    let d = c.decimal-k in
    let few = few-digits c.args.n d.result (omega arith) d.ensures.len in
    rw (length-take-le d.result d.new.out d.ensures.in_bounds.0) (omega arith)

pub returns-clause-put : goal.returns-clause-put
returns-clause-put c =
    let d = c.decimal-k in
    let e = d.ensures in
    put-decimal c.args.n d.result _ e.len e.digits e.in_bounds.0 (few-digits c.args.n d.result (omega arith) e.len) c.text.ensures.put
