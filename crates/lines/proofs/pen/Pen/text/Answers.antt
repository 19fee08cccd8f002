-- `lines::pen::Pen::text` meets its contract: the copy stands from the pen on. Assumes nothing.
use Rattle.lines.proofs.PutLaws.{put-copy}
use Rattle.lines.proofs.pen.Pen.text.Goals as goal

pub returns-clause-put : goal.returns-clause-put
returns-clause-put c =
    let a = c.args in
    put-copy a.self.now.out.now a.bytes.now c.copy_from_slice.new.self a.self.now.at c.requires c.copy_from_slice.ensures.after
