-- `answers::matrix` meets its contract: each stage refuses, or leaves the next one its facts. Assumes nothing.
use mathlib.Core.Path.{◌≡◌, sym, ◌∙◌}
use borrow.Author.Rules.{rules}
use Rattle.std.specs.Prelude.{Ok}
use Rattle.base.proofs.Options.{past, stop}
use Rattle.base.proofs.BufferLaws.{zeros-is}
use Rattle.tables.specs.Rows.{picture}
use Rattle.tables.specs.Refusals.{verdict_of}
use Rattle.tables.proofs.Verdicts.{passed, refused}
use Rattle.answers.specs.Calls.{matrix_early, matrix_fault, bytes_after, numbers_after}
use Rattle.answers.proofs.CallLaws.{matrix-early, matrix-parts, early-sound, early-room, early-drawn}
use Rattle.answers.proofs.matrix.Goals.{In_ok-early_matrix}
use Rattle.answers.proofs.matrix.Goals as goal

-- the early checks passed
clear : (c : In_ok-early_matrix) →
    let a = c.args in
    verdict_of (matrix_early (picture a.t.boxes.now a.t.rows.now a.t.arrows.now) a.scratch.now a.mode a.bytes.now a.numbers.now) ≡ Ok tt
clear c = sym c.early_matrix.ensures ∙ c.in_ok-early_matrix.was

pub returns-in_err-early_matrix : goal.returns-in_err-early_matrix
unfolding matrix_fault bytes_after numbers_after
returns-in_err-early_matrix c =
    let told = refused _ _ (sym c.early_matrix.ensures ∙ c.in_err-early_matrix.was) in record {
      result_value = rw (stop _ _ told) (search rules);
      scratch_after = rw told;
      bytes_after = rw (stop _ _ told);
      numbers_after = rw (stop _ _ told);
    }

pub fill_both-requires : goal.fill_both-requires
fill_both-requires c =
    let told = clear (goal.at.fill_both-requires c).In_ok-early_matrix in record {
      sound_rows = early-sound _ _ _ (matrix-early _ _ _ _ _) told;
      boxes_in_bounds = early-room _ _ _ (matrix-early _ _ _ _ _) told;
      closure_value = c.filled-closure.ensures ∙ zeros-is _;
    }

pub returns-in_err-fill_both : goal.returns-in_err-fill_both
unfolding matrix_fault bytes_after numbers_after
returns-in_err-fill_both c =
    let told = passed _ (clear (goal.at.returns-in_err-fill_both c).In_ok-early_matrix) in
    let loops = refused _ _ (sym c.fill_both.ensures.value ∙ c.in_err-fill_both.was) in record {
      result_value = rw (past _ _ told, loops) (search rules);
      scratch_after = search rules;
      bytes_after = rw (past _ _ told, loops);
      numbers_after = rw (past _ _ told, loops);
    }

pub fill_picture-requires : goal.fill_picture-requires
fill_picture-requires c =
    let told = clear (goal.at.fill_picture-requires c).In_ok-early_matrix in
    let rooms = matrix-parts _ _ _ _ _ (passed _ told) in (
      early-drawn _ _ _ (matrix-early _ _ _ _ _) told _ (sym c.fill_both.ensures.value ∙ c.in_ok-fill_both.was) c.fill_both.ensures.closure,
      rooms.2,
      rooms.3,
    )

pub returns : goal.returns
unfolding matrix_fault bytes_after numbers_after
returns c =
    let told = passed _ (clear (goal.at.returns c).In_ok-early_matrix) in
    let no-loops = passed _ (sym c.fill_both.ensures.value ∙ c.in_ok-fill_both.was) in record {
      result_value = rw (past _ _ told, no-loops);
      scratch_after = search rules;
      bytes_after = rw (past _ _ told, no-loops) c.fill_picture.ensures.0;
      numbers_after = rw (past _ _ told, no-loops) c.fill_picture.ensures.1;
    }
