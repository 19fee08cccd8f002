-- Each stage refuses, or leaves the next one its facts; then the kinds are written one after the other. Assumes nothing.
use mathlib.Core.Path.{◌≡◌, sym, ◌∙◌}
use mathlib.Core.List.{List}
use Rattle.std.proofs.Common.{Ok, Err}
use Prim.Native.Nat.{ℕ, ◌+◌, ◌*◌, ◌≤◌}
use lib.ListN.{length}
use lib.Seq.{length-sets}
use Rattle.tables.specs.Rows.{Picture, picture}
use Rattle.tables.specs.Faults.{table_fault, room_fault}
use Rattle.tables.specs.Refusals.{verdict_of}
use Rattle.tables.proofs.TableLaws.{sound-rows, sound-arrows}
use Rattle.tables.proofs.Verdicts.{passed}
use Rattle.packer.proofs.Filing.{Counted, blocks-most, boxes-asked, containments-asked, arrows-asked}
use Rattle.packer.proofs.Filing.{file-made, by-tables, by-room, room-there, by-none}
use native.Mathlib.Omega.{arith}
use borrow.Author.Rules.{rules}
use Rattle.packer.proofs.pack.Goals.{After-blocks_for-third, After-check, In_ok-check, In_ok-check_room}
use Rattle.packer.proofs.pack.Goals as goal

-- the picture and the file as they were lent
abbrev lent : After-check → Picture
lent c = let a = c.args in picture a.t.boxes.now a.t.rows.now a.t.arrows.now

abbrev lent_file : After-check → List ℕ
lent_file c = c.args.file.now

abbrev need : After-blocks_for-third → ℕ
need c = 512 * (1 + c.blocks_for-second.result + c.blocks_for-third.result)

-- what each stage found
tabled : (c : In_ok-check) → verdict_of (table_fault (lent (goal.at.In_ok-check c).After-check)) ≡ Ok tt
tabled c = sym c.check.ensures ∙ c.in_ok-check.was

counted : (c : After-blocks_for-third) → Counted (lent (goal.at.After-blocks_for-third c).After-check) c.blocks_for-second.result c.blocks_for-third.result
counted c = record {
  tabled = tabled (goal.at.After-blocks_for-third c).In_ok-check;
  second-for = rw c.rows.ensures at c.blocks_for-second.ensures;
  third-for = rw c.rows-2.ensures at c.blocks_for-third.ensures;
}

roomed : (c : In_ok-check_room)
    →
    verdict_of (room_fault 8 (length (lent_file (goal.at.In_ok-check_room c).After-check)) (need (goal.at.In_ok-check_room c).After-blocks_for-third)) ≡ Ok tt
roomed c = sym c.check_room.ensures ∙ c.in_ok-check_room.was

room : (c : In_ok-check_room)
    →
    need (goal.at.In_ok-check_room c).After-blocks_for-third ≤ length (lent_file (goal.at.In_ok-check_room c).After-check)
room c = room-there (counted (goal.at.In_ok-check_room c).After-blocks_for-third) (lent_file (goal.at.In_ok-check_room c).After-check) (roomed c)

pub returns-in_err-check : goal.returns-in_err-check
returns-in_err-check c =
    let r = by-tables (lent (goal.at.returns-in_err-check c).After-check) c.args.file.now _ (sym c.check.ensures ∙ c.in_err-check.was) in
    let e : c.from_residual.result ≡ Err c.in_err-check.field-0.0 = search rules in
    record { result_value = e ∙ r.0; file_after = r.1 }

pub blocks_for-second-requires : goal.blocks_for-second-requires
blocks_for-second-requires c =
    let r = (sound-rows _ _ _ (passed _ (tabled (goal.at.blocks_for-second-requires c).In_ok-check))).few-rows in
    (omega arith, omega arith, omega arith)

pub blocks_for-third-requires : goal.blocks_for-third-requires
blocks_for-third-requires c =
    let r = (sound-arrows _ _ _ (passed _ (tabled (goal.at.blocks_for-third-requires c).In_ok-check))).few-arrows in
    (omega arith, omega arith, omega arith)

pub overflow_add-need : goal.overflow_add-need
overflow_add-need c = omega (arith, (blocks-most (counted c)).0)

pub overflow_add-need-2 : goal.overflow_add-need-2
overflow_add-need-2 c = omega (arith, (blocks-most (counted c)).0, (blocks-most (counted c)).1)

pub overflow_mul-need : goal.overflow_mul-need
overflow_mul-need c = omega (arith, (blocks-most (counted c)).0, (blocks-most (counted c)).1)

pub returns-in_err-check_room : goal.returns-in_err-check_room
returns-in_err-check_room c =
    let r = by-room (counted (goal.at.returns-in_err-check_room c).After-blocks_for-third) c.args.file.now _
    (sym c.check_room.ensures ∙ c.in_err-check_room.was) in
    let e : c.from_residual-in_err-check_room.result ≡ Err c.in_err-check_room.field-0.0 = search rules in
    record { result_value = e ∙ r.0; file_after = r.1 }

pub put_kind-requires : goal.put_kind-requires
put_kind-requires c = boxes-asked (counted (goal.at.put_kind-requires c).After-blocks_for-third) _ (room (goal.at.put_kind-requires c).In_ok-check_room)

pub put_kind-requires-2 : goal.put_kind-requires-2
put_kind-requires-2 c =
    containments-asked (counted (goal.at.put_kind-requires-2 c).After-blocks_for-third) _
    (rw c.put_kind.ensures (simp length-sets (room (goal.at.put_kind-requires-2 c).In_ok-check_room)))

pub overflow_add-second : goal.overflow_add-second
overflow_add-second c =
    omega (arith, (blocks-most (counted (goal.at.overflow_add-second c).After-blocks_for-third)).0)

pub put_kind-requires-3 : goal.put_kind-requires-3
put_kind-requires-3 c =
    arrows-asked (counted (goal.at.put_kind-requires-3 c).After-blocks_for-third) _
    (rw c.put_kind-2.ensures (simp length-sets (rw c.put_kind.ensures (simp length-sets (room (goal.at.put_kind-requires-3 c).In_ok-check_room)))))

pub returns : goal.returns
returns c =
    let all = counted (goal.at.returns c).After-blocks_for-third in
    let r = by-none all _ (roomed (goal.at.returns c).In_ok-check_room) _
    (file-made all _ _ _ _ (room (goal.at.returns c).In_ok-check_room) c.put_kind.ensures c.put_kind-2.ensures c.put_kind-3.ensures) in
    record { result_value = r.0; file_after = r.1 }
