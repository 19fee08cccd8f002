-- `lines::pen::Pen::counts` meets its contract: three words, each with its number. Assumes nothing.
use Rattle.lines.proofs.PutLaws.{chain}
use Rattle.lines.specs.Text.{text, line}
use Rattle.lines.specs.Lines.{line_text}
use Rattle.lines.proofs.pen.Pen.counts.Goals as goal

pub returns-clause-put : goal.returns-clause-put
unfolding text line line_text
returns-clause-put c =
    chain c.text.ensures.put
    (chain c.field.ensures.put
    (chain c.text-2.ensures.put (chain c.field-2.ensures.put (chain c.text-3.ensures.put c.end.ensures.put))))
