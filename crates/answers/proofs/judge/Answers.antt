-- `answers::judge` meets its contract: each stage refuses, or leaves the next one its facts. Assumes nothing.
use mathlib.Core.Path.{◌≡◌, sym, ◌∙◌}
use borrow.Author.Rules.{rules}
use Rattle.std.specs.Prelude.{Ok, Err}
use Rattle.base.proofs.Options.{or_else-assoc}
use Rattle.base.proofs.BufferLaws.{zeros-is}
use Rattle.tables.specs.Rows.{picture}
use Rattle.tables.specs.Refusals.{verdict_of}
use Rattle.tables.proofs.Verdicts.{refused-by, passed-by}
use Rattle.scratch.specs.Scratch.{early_fault}
use Rattle.scratch.proofs.PictureLaws.{picture-stages}
use Rattle.answers.specs.Calls.{judge_fault}
use Rattle.answers.proofs.CallLaws.{picture-early, early-sound, early-room, early-drawn}
use Rattle.answers.proofs.judge.Goals.{In_ok-early_picture}
use Rattle.answers.proofs.judge.Goals as goal

-- the early checks passed
clear : (c : In_ok-early_picture) →
    let a = c.args in
    verdict_of (early_fault (picture a.t.boxes.now a.t.rows.now a.t.arrows.now) a.scratch.now) ≡ Ok tt
clear c = sym c.early_picture.ensures ∙ c.in_ok-early_picture.was

pub returns-in_err-early_picture-clause-result_value : goal.returns-in_err-early_picture-clause-result_value
unfolding judge_fault
returns-in_err-early_picture-clause-result_value c =
    rw (← picture-stages, or_else-assoc) (search (rules, refused-by, passed-by))

pub fill_both-requires : goal.fill_both-requires
fill_both-requires c = record {
  sound_rows = early-sound _ _ _ (picture-early _ _) (clear (goal.at.fill_both-requires c).In_ok-early_picture);
  boxes_in_bounds = early-room _ _ _ (picture-early _ _) (clear (goal.at.fill_both-requires c).In_ok-early_picture);
  closure_value = c.filled-closure.ensures ∙ zeros-is _;
}

pub returns-in_err-fill_both-clause-result_value : goal.returns-in_err-fill_both-clause-result_value
unfolding judge_fault
returns-in_err-fill_both-clause-result_value c =
    let e : c.from_residual-in_err-fill_both.result ≡ Err c.in_err-fill_both.field-0.0 = search rules in
    rw (← picture-stages, or_else-assoc)
    (passed-by _ _ _ _ c.early_picture.ensures c.in_ok-early_picture.was
    (refused-by _ _ _ _ _ c.fill_both.ensures.value c.in_err-fill_both.was e))

pub judge_picture-requires : goal.judge_picture-requires
judge_picture-requires c =
    early-drawn _ _ _ (picture-early _ _) (clear (goal.at.judge_picture-requires c).In_ok-early_picture) _
    (sym c.fill_both.ensures.value ∙ c.in_ok-fill_both.was) c.fill_both.ensures.closure

pub returns-clause-result_value : goal.returns-clause-result_value
unfolding judge_fault
returns-clause-result_value c =
    rw (← picture-stages, or_else-assoc) (search (rules, refused-by, passed-by))
