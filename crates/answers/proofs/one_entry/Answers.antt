-- `answers::one_entry` meets its contract: each stage refuses, or leaves the next one its facts. Assumes nothing.
use mathlib.Core.Path.{◌≡◌, refl, sym, ap, ◌∙◌}
use Prim.Native.Nat.{◌<◌}
use native.Mathlib.Omega.{arith}
use borrow.Author.Rules.{rules}
use lib.ListN.{length}
use Rattle.std.specs.Prelude.{Ok}
use Rattle.base.proofs.Options.{past, stop}
use Rattle.base.proofs.BufferLaws.{zeros-is}
use Rattle.tables.specs.Rows.{picture}
use Rattle.tables.specs.Refusals.{verdict_of}
use Rattle.tables.proofs.Verdicts.{passed, refused}
use Rattle.scratch.specs.Scratch.{mode_early}
use Rattle.mode_sets.proofs.CallerLaws.{small-arrows}
use Rattle.certificates.specs.Steps.{Drawn}
use Rattle.answers.specs.Calls.{entry_fault, reply_of}
use Rattle.answers.proofs.CallLaws.{mode-early, early-sound, early-room, early-drawn, asked-there}
use Rattle.answers.proofs.one_entry.Goals.{In_ok-early_entry, In_ok-fill_both, In_ok-check_asked}
use Rattle.answers.proofs.one_entry.Goals as goal

-- the early checks passed
clear : (c : In_ok-early_entry) →
    let a = c.args in
    verdict_of (mode_early (picture a.t.boxes.now a.t.rows.now a.t.arrows.now) a.scratch.now a.mode) ≡ Ok tt
clear c = sym c.early_entry.ensures ∙ c.in_ok-early_entry.was

-- and check 10
drawn : (c : In_ok-fill_both) →
    let a = c.args in
    Drawn (picture a.t.boxes.now a.t.rows.now a.t.arrows.now) c.fill_both.new.closure
drawn c =
    early-drawn _ _ _ (mode-early _ _ _) (clear (goal.at.In_ok-fill_both c).In_ok-early_entry) _
    (sym c.fill_both.ensures.value ∙ c.in_ok-fill_both.was) c.fill_both.ensures.closure

-- and check 11, so both boxes are there
there : (c : In_ok-check_asked) → (c.from-u.result < length c.args.t.boxes.now) × (c.from-f.result < length c.args.t.boxes.now)
there c = asked-there c.args.t.boxes.now c.args.t.rows.now _ _ (passed _ (sym c.check_asked.ensures ∙ c.in_ok-check_asked.was))

pub returns-in_err-early_entry-clause-result_value : goal.returns-in_err-early_entry-clause-result_value
unfolding entry_fault reply_of
returns-in_err-early_entry-clause-result_value c =
    rw (stop _ _ (refused _ _ (sym c.early_entry.ensures ∙ c.in_err-early_entry.was))) (search rules)

pub fill_both-requires : goal.fill_both-requires
fill_both-requires c =
    let told = clear (goal.at.fill_both-requires c).In_ok-early_entry in record {
      sound_rows = early-sound _ _ _ (mode-early _ _ _) told;
      boxes_in_bounds = early-room _ _ _ (mode-early _ _ _) told;
      closure_value = c.filled-closure.ensures ∙ zeros-is _;
    }

pub returns-in_err-fill_both-clause-result_value : goal.returns-in_err-fill_both-clause-result_value
unfolding entry_fault reply_of
returns-in_err-fill_both-clause-result_value c =
    let told = passed _ (clear (goal.at.returns-in_err-fill_both-clause-result_value c).In_ok-early_entry) in
    rw (past _ _ told, stop _ _ (refused _ _ (sym c.fill_both.ensures.value ∙ c.in_err-fill_both.was))) (search rules)

pub check_asked-requires : goal.check_asked-requires
check_asked-requires c = (drawn (goal.at.check_asked-requires c).In_ok-fill_both).rows-sound.whole

pub returns-in_err-check_asked-clause-result_value : goal.returns-in_err-check_asked-clause-result_value
unfolding entry_fault reply_of
returns-in_err-check_asked-clause-result_value c =
    let told = passed _ (clear (goal.at.returns-in_err-check_asked-clause-result_value c).In_ok-early_entry) in
    let no-loops = passed _ (sym c.fill_both.ensures.value ∙ c.in_ok-fill_both.was) in
    let asked = refused _ _ (sym c.check_asked.ensures ∙ c.in_err-check_asked.was) in
    rw (past _ _ told, past _ _ no-loops, ← c.from-u.ensures, ← c.from-f.ensures, asked)
    (search rules)

pub answer_pair-requires : goal.answer_pair-requires
answer_pair-requires c =
    let a = c.args in
    let d = drawn (goal.at.answer_pair-requires c).In_ok-fill_both in
    let in-boxes = there (goal.at.answer_pair-requires c).In_ok-check_asked in (
      small-arrows a.t.boxes.now a.t.arrows.now d.arrows-sound d.rows-sound.few-boxes,
      omega (arith, d.rows-sound.few-boxes, in-boxes.0),
      omega (arith, d.rows-sound.few-boxes, in-boxes.1),
    )

pub returns-clause-result_value : goal.returns-clause-result_value
unfolding entry_fault reply_of
returns-clause-result_value c =
    let begun = goal.at.returns-clause-result_value c in
    let told = passed _ (clear begun.In_ok-early_entry) in
    let no-loops = passed _ (sym c.fill_both.ensures.value ∙ c.in_ok-fill_both.was) in
    let asked = passed _ (sym c.check_asked.ensures ∙ c.in_ok-check_asked.was) in
    let in-boxes = there begun.In_ok-check_asked in
    rw (past _ _ told, past _ _ no-loops, ← c.from-u.ensures, ← c.from-f.ensures, asked)
    (ap Ok (c.answer_pair.ensures _ (drawn begun.In_ok-fill_both) refl in-boxes.0 in-boxes.1))
