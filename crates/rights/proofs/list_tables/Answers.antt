-- `rights::list_tables` meets its contract: a picture that is not refused is without faults, and its closure is made. Assumes nothing.
use mathlib.Core.Path.{◌≡◌, ◌∙◌}
use Rattle.base.proofs.BufferLaws.{zeros-is}
use Rattle.tables.specs.Rows.{shown}
use Rattle.tables.specs.Refusals.{verdict_of}
use Rattle.scratch.specs.Scratch.{early_fault, picture_fault}
use Rattle.scratch.proofs.ScratchLaws.{ends}
use Rattle.listing.proofs.FileLaws.{picture-refused, picture-good}
use Rattle.rights.proofs.Prepared.{early-passed, stages-are, drawn}
use Rattle.rights.proofs.list_tables.Goals.{After-prepare}
use Rattle.rights.proofs.list_tables.Given.{Over}
use Rattle.rights.proofs.list_tables.Goals as goal

-- the verdict is by all checks
told : (g : Over) → (c : After-prepare g) → let a = c.args in
    c.prepare.result
    ≡ verdict_of (picture_fault (shown a.t) c.large_buffer-scratch.result)
told g c =
    let a = c.args in
    let s = c.large_buffer-scratch.result in
    stages-are a.t.boxes.now a.t.rows.now a.t.arrows.now s c.early_picture-early.ensures
    (ends a.t.boxes.now a.t.rows.now s c.prepare.ensures.refused c.prepare.ensures.value (early_fault (shown a.t) s)
    c.early_picture-early.ensures).0

pub prepare-requires : goal.prepare-requires
prepare-requires g c =
    let a = c.args in record {
      sound_rows = early-passed a.t.boxes.now a.t.rows.now a.t.arrows.now c.large_buffer-scratch.result c.early_picture-early.ensures;
      closure_value = c.filled-closure.ensures ∙ zeros-is 2048;
    }

pub list_picture-requires : goal.list_picture-requires
list_picture-requires g c =
    let a = c.args in
    let pass = c.in-Ok.is in
    drawn a.t.boxes.now a.t.rows.now a.t.arrows.now _ (told g (goal.at.list_picture-requires g c).After-prepare) pass (c.prepare.ensures.closure pass)

pub returns-in-Err : goal.returns-in-Err
returns-in-Err g c =
    let a = c.args in
    let is =
    picture-refused a.t.boxes.now a.t.rows.now a.t.arrows.now _ c.large_buffer-scratch.ensures (told g (goal.at.returns-in-Err g c).After-prepare) _
    c.in-Err.is in
    rw (is, ← c.from.ensures) (record { check = c.send_stopped.ensures.check; bytes = c.send_stopped.ensures.bytes })

pub returns-in-Ok : goal.returns-in-Ok
returns-in-Ok g c =
    let a = c.args in
    let is =
    picture-good a.t.boxes.now a.t.rows.now a.t.arrows.now _ c.large_buffer-scratch.ensures (told g (goal.at.returns-in-Ok g c).After-prepare)
    c.in-Ok.is in
    rw is (record { check = c.list_picture.ensures.check; bytes = c.list_picture.ensures.bytes })
