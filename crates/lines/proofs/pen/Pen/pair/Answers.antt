-- `lines::pen::Pen::pair` meets its contract: three numbers, then the answer. Assumes nothing.
use Rattle.lines.proofs.PutLaws.{chain, line-answer}
use Rattle.lines.specs.Text.{text, line, decimal}
use Rattle.lines.specs.Lines.{line_text}
use Rattle.lines.proofs.pen.Pen.pair.Goals as goal

pub returns-clause-put : goal.returns-clause-put
unfolding text line line_text
returns-clause-put c =
    rw (line-answer (decimal c.args.file) c.args.e, ← c.from.ensures, ← c.from-2.ensures, ← c.from-3.ensures)
    (chain c.number.ensures.put (chain c.field.ensures.put (chain c.field-2.ensures.put c.answer.ensures.put)))
