-- `lines::pen::Pen::three` meets its contract: two fields, then the line's last. Assumes nothing.
use Rattle.lines.proofs.PutLaws.{chain}
use Rattle.lines.specs.Text.{text, line}
use Rattle.lines.specs.Lines.{three_fields}
use Rattle.lines.proofs.pen.Pen.three.Goals as goal

pub returns-clause-put : goal.returns-clause-put
unfolding text line three_fields
returns-clause-put c =
    chain c.field.ensures.put (chain c.field-2.ensures.put c.end.ensures.put)
