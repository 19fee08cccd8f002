-- `rights::list` meets its contract: what is read is what the file says. Assumes nothing.
use Rattle.blocks.specs.Steps.{ReadDone}
use Rattle.blocks.proofs.Rooms.{read_fits}
use Rattle.listing.proofs.FileLaws.{read-refused, read-good}
use borrow.Author.Rules.{rules}
use Rattle.rights.proofs.list.Given.{Over}
use Rattle.rights.proofs.list.Goals.{After-read}
use Rattle.rights.proofs.list.Goals as goal

-- what was read, by the answer
done : (g : Over) → (c : After-read g)
    → ReadDone c.args.file.now c.filled-boxes.result c.filled-rows.result c.filled-arrows.result
    c.read.new.boxes c.read.new.rows c.read.new.arrows c.read.result
done g c = let e = c.read.ensures in (e.result_value, (e.boxes_after, (e.rows_after, e.arrows_after)))

pub list_counted-requires : goal.list_counted-requires
list_counted-requires g c =
    let was = rw c.in-Ok.is at (done g (goal.at.list_counted-requires g c).After-read) in
    let fits =
    read_fits c.args.file.now c.filled-boxes.result c.filled-rows.result c.filled-arrows.result
    _ _ _ was in
    (search rules, search rules, search rules)

pub returns-in-Err : goal.returns-in-Err
returns-in-Err g c =
    let was = rw c.in-Err.is at (done g (goal.at.returns-in-Err g c).After-read) in
    let is =
    read-refused c.args.file.now c.filled-boxes.result c.filled-rows.result
    c.filled-arrows.result _ _ _ (search rules) (search rules)
    (search rules) was in
    rw (is, ← c.from.ensures) (record { check = c.send_stopped.ensures.check; bytes = c.send_stopped.ensures.bytes })

pub returns-in-Ok : goal.returns-in-Ok
returns-in-Ok g c =
    let was = rw c.in-Ok.is at (done g (goal.at.returns-in-Ok g c).After-read) in
    let is =
    read-good c.args.file.now c.filled-boxes.result c.filled-rows.result
    c.filled-arrows.result _ _ _ (search rules) (search rules)
    (search rules) was in
    rw is (record { check = c.list_counted.ensures.check; bytes = c.list_counted.ensures.bytes })
