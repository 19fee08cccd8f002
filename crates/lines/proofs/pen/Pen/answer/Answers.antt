-- `lines::pen::Pen::answer` meets its contract, by the four answers. Assumes nothing.
use native.Mathlib.Omega.{arith}
use Rattle.lines.proofs.PutLaws.{chain, roomier}
use Rattle.lines.specs.Text.{text, line}
use Rattle.lines.specs.Lines.{answer_fields}
use Rattle.lines.proofs.pen.Pen.answer.Goals as goal

pub returns-in-Granted-clause-put : goal.returns-in-Granted-clause-put
unfolding text line answer_fields
returns-in-Granted-clause-put c =
    rw (c.in-Granted.is, ← c.from.ensures) (roomier 49 (omega arith) (chain c.text.ensures.put c.end.ensures.put))

pub returns-in-Denied-clause-put : goal.returns-in-Denied-clause-put
unfolding text line answer_fields
returns-in-Denied-clause-put c =
    rw (c.in-Denied.is, ← c.from-in-Denied.ensures)
    (roomier 49 (omega arith) (chain c.text-in-Denied.ensures.put c.end-in-Denied.ensures.put))

pub returns-in-Default-clause-put : goal.returns-in-Default-clause-put
unfolding text line answer_fields
returns-in-Default-clause-put c = rw c.in-Default.is (roomier 49 (omega arith) c.text-in-Default.ensures.put)

pub returns-in-Unclear-clause-put : goal.returns-in-Unclear-clause-put
unfolding text line answer_fields
returns-in-Unclear-clause-put c =
    rw (c.in-Unclear.is, ← c.from-in-Unclear.ensures, ← c.from-in-Unclear-2.ensures)
    (chain c.text-in-Unclear.ensures.put (chain c.field.ensures.put c.end-in-Unclear.ensures.put))
