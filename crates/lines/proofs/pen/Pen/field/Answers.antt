-- `lines::pen::Pen::field` meets its contract: a space, then the number. Assumes nothing.
use Rattle.lines.proofs.PutLaws.{chain}
use Rattle.lines.specs.Text.{text}
use Rattle.lines.proofs.pen.Pen.field.Goals as goal

pub returns-clause-put : goal.returns-clause-put
unfolding text
returns-clause-put c =
    chain c.text.ensures.put c.number.ensures.put
