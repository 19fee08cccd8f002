-- `lines::pen::Pen::last` meets its contract, by the two verdicts. Assumes nothing.
use native.Mathlib.Omega.{arith}
use Rattle.lines.proofs.PutLaws.{chain, roomier}
use Rattle.lines.specs.Text.{text, line}
use Rattle.lines.specs.Lines.{three_fields, line_text}
use Rattle.lines.proofs.pen.Pen.last.Goals as goal

pub returns-in-Ok-clause-put : goal.returns-in-Ok-clause-put
unfolding text line line_text
returns-in-Ok-clause-put c =
    rw c.in-Ok.is (roomier 73 (omega arith) c.text.ensures.put)

pub returns-in-Err-clause-put : goal.returns-in-Err-clause-put
unfolding text line three_fields line_text
returns-in-Err-clause-put c =
    rw c.in-Err.is (roomier 73 (omega arith) (chain c.text-in-Err.ensures.put c.three.ensures.put))
