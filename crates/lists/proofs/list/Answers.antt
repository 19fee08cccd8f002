-- `lists::list` meets its contract: each stage refuses, or leaves the next one its facts. Assumes nothing.
use mathlib.Core.Path.{◌≡◌, sym, ◌∙◌}
use borrow.Author.Rules.{rules}
use Rattle.std.specs.Prelude.{Err, None as none}
use Rattle.base.proofs.Options.{past, stop}
use Rattle.base.proofs.BufferLaws.{zeros-is}
use Rattle.tables.specs.Rows.{shown}
use Rattle.tables.proofs.TableLaws.{sound-rows, sound-arrows}
use Rattle.tables.proofs.Verdicts.{passed, refused}
use Rattle.list_meaning.proofs.CallLaws.{Rooms, rooms, ListEnds, ten_fault, ten-none, end_refused, end-listing}
use Rattle.lists.proofs.list.Goals.{In_err-early_list, In_ok-early_list, In_err-fill_both, In_ok-fill_both, After-write_list}
use Rattle.lists.proofs.list.Goals as goal

-- checks 1 to 9 passed
room : (c : In_ok-early_list) →
    let a = c.args in
    Rooms (shown a.t) a.mode a.scratch.now a.out.now a.work.now
room c =
    let a = c.args in
    rooms (shown a.t) a.mode a.scratch.now a.out.now a.work.now
    (passed _ (sym c.early_list.ensures ∙ c.in_ok-early_list.was))

-- and 10
ten : (c : In_ok-fill_both) →
    let a = c.args in
    ten_fault (shown a.t) a.mode a.scratch.now a.out.now a.work.now ≡ none
ten c =
    past _ _ (passed _ (sym c.early_list.ensures ∙ c.in_ok-early_list.was))
    ∙ passed _ (sym c.fill_both.ensures.value ∙ c.in_ok-fill_both.was)

-- one of them refuses
stopped : (c : In_err-early_list) →
    let a = c.args in
    ListEnds (shown a.t) a.mode a.scratch.now a.out.now a.work.now (Err c.in_err-early_list.field-0.0) a.out.now a.work.now
stopped c =
    let a = c.args in
    end_refused (shown a.t) a.mode a.scratch.now a.out.now a.work.now _
    (stop _ _ (refused _ _ (sym c.early_list.ensures ∙ c.in_err-early_list.was)))

pub returns-in_err-early_list-clause-result_value : goal.returns-in_err-early_list-clause-result_value
returns-in_err-early_list-clause-result_value c =
    let e : c.from_residual.result ≡ Err c.in_err-early_list.field-0.0 = search rules in
    e ∙ (stopped (goal.at.returns-in_err-early_list-clause-result_value c).In_err-early_list).0

pub returns-in_err-early_list-clause-out_after : goal.returns-in_err-early_list-clause-out_after
returns-in_err-early_list-clause-out_after c = (stopped (goal.at.returns-in_err-early_list-clause-out_after c).In_err-early_list).1

pub returns-in_err-early_list-clause-work_after : goal.returns-in_err-early_list-clause-work_after
returns-in_err-early_list-clause-work_after c = (stopped (goal.at.returns-in_err-early_list-clause-work_after c).In_err-early_list).2

pub fill_both-requires-clause-sound_rows : goal.fill_both-requires-clause-sound_rows
fill_both-requires-clause-sound_rows c =
    let a = c.args in
    sound-rows a.t.boxes.now a.t.rows.now a.t.arrows.now (room (goal.at.fill_both-requires-clause-sound_rows c).In_ok-early_list).no-fault

pub fill_both-requires-clause-boxes_in_bounds : goal.fill_both-requires-clause-boxes_in_bounds
fill_both-requires-clause-boxes_in_bounds c = (room (goal.at.fill_both-requires-clause-boxes_in_bounds c).In_ok-early_list).scratch-room

pub fill_both-requires-clause-closure_value : goal.fill_both-requires-clause-closure_value
fill_both-requires-clause-closure_value c = c.filled-closure.ensures ∙ zeros-is 2048

-- check 10 refuses
looped : (c : In_err-fill_both) →
    let a = c.args in
    ListEnds (shown a.t) a.mode a.scratch.now a.out.now a.work.now (Err c.in_err-fill_both.field-0.0) a.out.now a.work.now
looped c =
    let a = c.args in
    end_refused (shown a.t) a.mode a.scratch.now a.out.now a.work.now _
    (past _ _ (passed _ (sym c.early_list.ensures ∙ c.in_ok-early_list.was)) ∙ refused _ _ (sym c.fill_both.ensures.value ∙ c.in_err-fill_both.was))

pub returns-in_err-fill_both-clause-result_value : goal.returns-in_err-fill_both-clause-result_value
returns-in_err-fill_both-clause-result_value c =
    let e : c.from_residual-in_err-fill_both.result ≡ Err c.in_err-fill_both.field-0.0 = search rules in
    e ∙ (looped (goal.at.returns-in_err-fill_both-clause-result_value c).In_err-fill_both).0

pub returns-in_err-fill_both-clause-out_after : goal.returns-in_err-fill_both-clause-out_after
returns-in_err-fill_both-clause-out_after c = (looped (goal.at.returns-in_err-fill_both-clause-out_after c).In_err-fill_both).1

pub returns-in_err-fill_both-clause-work_after : goal.returns-in_err-fill_both-clause-work_after
returns-in_err-fill_both-clause-work_after c = (looped (goal.at.returns-in_err-fill_both-clause-work_after c).In_err-fill_both).2

pub write_list-requires-clause-drawn : goal.write_list-requires-clause-drawn
write_list-requires-clause-drawn c =
    let a = c.args in
    let r =
    ten-none (shown a.t) a.mode a.scratch.now a.out.now a.work.now
    (ten (goal.at.write_list-requires-clause-drawn c).In_ok-fill_both) in record {
      rows-sound = sound-rows a.t.boxes.now a.t.rows.now a.t.arrows.now r.0.no-fault;
      arrows-sound = sound-arrows a.t.boxes.now a.t.rows.now a.t.arrows.now r.0.no-fault;
      no-loops = r.1;
      closed = c.fill_both.ensures.closure;
    }

pub write_list-requires-clause-mode_in_bounds : goal.write_list-requires-clause-mode_in_bounds
write_list-requires-clause-mode_in_bounds c =
    let r = room (goal.at.write_list-requires-clause-mode_in_bounds c).In_ok-early_list in (r.out-room, r.work-room)

-- the list follows
ends : (c : After-write_list) →
    let a = c.args in
    ListEnds (shown a.t) a.mode a.scratch.now a.out.now a.work.now c.write_list.result c.write_list.new.out c.write_list.new.work
ends c =
    let a = c.args in
    end-listing (shown a.t) a.mode a.scratch.now a.out.now a.work.now
    (ten (goal.at.After-write_list c).In_ok-fill_both) _ _ _ c.write_list.ensures

pub returns-clause-result_value : goal.returns-clause-result_value
returns-clause-result_value c = (ends (goal.at.returns-clause-result_value c).After-write_list).0

pub returns-clause-out_after : goal.returns-clause-out_after
returns-clause-out_after c = (ends (goal.at.returns-clause-out_after c).After-write_list).1

pub returns-clause-work_after : goal.returns-clause-work_after
returns-clause-work_after c = (ends (goal.at.returns-clause-work_after c).After-write_list).2
