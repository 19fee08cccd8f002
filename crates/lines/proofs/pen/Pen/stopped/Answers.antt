-- `lines::pen::Pen::stopped` meets its contract: the word, the number and its three numbers. Assumes nothing.
use Rattle.lines.proofs.PutLaws.{chain}
use Rattle.lines.specs.Text.{text, line}
use Rattle.lines.specs.Lines.{three_fields, line_text}
use Rattle.lines.proofs.pen.Pen.stopped.Goals as goal

pub returns-clause-put : goal.returns-clause-put
unfolding text line three_fields line_text
returns-clause-put c =
    chain c.text.ensures.put (chain (rw c.from.ensures at c.field.ensures.put) c.three.ensures.put)
