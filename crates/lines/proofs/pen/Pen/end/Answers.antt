-- `lines::pen::Pen::end` meets its contract: the number, then the line's end. Assumes nothing.
use Rattle.lines.proofs.PutLaws.{chain}
use Rattle.lines.specs.Text.{text, line}
use Rattle.lines.proofs.pen.Pen.end.Goals as goal

pub returns-clause-put : goal.returns-clause-put
unfolding text line
returns-clause-put c =
    chain c.field.ensures.put c.text.ensures.put
