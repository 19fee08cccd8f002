-- `headings::atomic_boxes` meets its contract: each stage refuses, or leaves the next one its facts. Assumes nothing.
use mathlib.Core.List.{[]}
use mathlib.Core.Path.{◌≡◌, sym, ◌∙◌}
use borrow.Author.Rules.{rules}
use Rattle.std.specs.Prelude.{Ok, Err}
use Rattle.base.proofs.BufferLaws.{zeros-is}
use Rattle.tables.specs.Rows.{picture}
use Rattle.tables.specs.Faults.{table_fault}
use Rattle.tables.specs.Refusals.{verdict_of}
use Rattle.tables.specs.Steps.{SoundRows}
use Rattle.tables.proofs.TableLaws.{sound-rows}
use Rattle.tables.proofs.Verdicts.{passed}
use Rattle.headings.proofs.HeadingLaws.{Found, by-tables, by-users, by-files, users-suffice, files-suffice, by-none}
use Rattle.headings.proofs.atomic_boxes.Goals.{In_ok-check, After-atoms_of-n}
use Rattle.headings.proofs.atomic_boxes.Goals as goal

-- the tables passed
module _ (told : In_ok-check) where
  tabled : verdict_of (table_fault (picture told.args.boxes.now told.args.rows.now [])) ≡ Ok tt
  tabled = sym told.check.ensures ∙ told.in_ok-check.was

  sound : SoundRows told.args.boxes.now told.args.rows.now
  sound = sound-rows _ _ [] (passed _ tabled)

-- the atomic boxes are found, by what the calls ensure; `cc` puts in that the arrays held zeros
found : (c : After-atoms_of-n) →
    let a = c.args in
    Found a.boxes.now a.rows.now c.atoms_of-m.new.out c.atoms_of-n.new.out c.atoms_of-m.result c.atoms_of-n.result
found c = record {
  tabled = tabled (goal.at.After-atoms_of-n c).In_ok-check;
  users-in = (c.atoms_of-m.ensures.value, rw (← zeros-is) cc);
  files-in = (c.atoms_of-n.ensures.value, rw (← zeros-is) cc);
}

pub atoms_of-m-requires : goal.atoms_of-m-requires
atoms_of-m-requires c = (sound (goal.at.atoms_of-m-requires c).In_ok-check, search rules)

pub atoms_of-n-requires : goal.atoms_of-n-requires
atoms_of-n-requires c = (sound (goal.at.atoms_of-n-requires c).In_ok-check, search rules)

pub returns-in_err-check : goal.returns-in_err-check
returns-in_err-check c =
    let same : c.from_residual.result ≡ Err c.in_err-check.field-0.0 = search rules in
    let w = by-tables _ _ _ _ c.check.ensures c.in_err-check.was in
    record { value = same ∙ w.0; users_after = w.1.0; files_after = w.1.1 }

pub returns-in_err-check_room : goal.returns-in_err-check_room
returns-in_err-check_room c =
    let same : c.from_residual-in_err-check_room.result ≡ Err c.in_err-check_room.field-0.0 = search rules in
    let w = by-users c.args.users.now c.args.files.now (found (goal.at.returns-in_err-check_room c).After-atoms_of-n)
    (sym c.check_room.ensures ∙ c.in_err-check_room.was) in
    record { value = same ∙ w.0; users_after = w.1.0; files_after = w.1.1 }

pub returns-in_err-check_room-2 : goal.returns-in_err-check_room-2
returns-in_err-check_room-2 c =
    let same : c.from_residual-in_err-check_room-2.result ≡ Err c.in_err-check_room-2.field-0.0 = search rules in
    let w = by-files c.args.users.now c.args.files.now (found (goal.at.returns-in_err-check_room-2 c).After-atoms_of-n)
    (sym c.check_room.ensures ∙ c.in_ok-check_room.was) (sym c.check_room-2.ensures ∙ c.in_err-check_room-2.was) in
    record { value = same ∙ w.0; users_after = w.1.0; files_after = w.1.1 }

pub copy-requires : goal.copy-requires
copy-requires c =
    users-suffice c.args.users.now c.args.files.now (found (goal.at.copy-requires c).After-atoms_of-n)
    (sym c.check_room.ensures ∙ c.in_ok-check_room.was)

pub copy-requires-2 : goal.copy-requires-2
copy-requires-2 c =
    files-suffice c.args.users.now c.args.files.now (found (goal.at.copy-requires-2 c).After-atoms_of-n)
    (sym c.check_room.ensures ∙ c.in_ok-check_room.was)
    (sym c.check_room-2.ensures ∙ c.in_ok-check_room-2.was)

pub returns : goal.returns
returns c =
    let w = by-none c.args.users.now c.args.files.now (found (goal.at.returns c).After-atoms_of-n)
    (sym c.check_room.ensures ∙ c.in_ok-check_room.was)
    (sym c.check_room-2.ensures ∙ c.in_ok-check_room-2.was) c.copy.ensures c.copy-2.ensures in
    record { value = w.0; users_after = w.1.0; files_after = w.1.1 }
