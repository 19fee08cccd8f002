-- `answers::early::early_matrix` meets its contract: the checks of an entry refuse, or leave 9 for the buffers its facts. Assumes nothing.
use mathlib.Core.Path.{sym, ◌∙◌}
use borrow.Author.Rules.{rules}
use Rattle.tables.specs.Rows.{picture}
use Rattle.tables.proofs.Verdicts.{refused-by, passed-by}
use Rattle.answers.specs.Calls.{matrix_early}
use Rattle.answers.proofs.CallLaws.{mode-early, early-sound}
use Rattle.answers.proofs.early.early_matrix.Goals as goal

pub returns-in_err-early_entry : goal.returns-in_err-early_entry
unfolding matrix_early
returns-in_err-early_entry c = search (rules, refused-by, passed-by)

pub pair_count-pairs-requires : goal.pair_count-pairs-requires
pair_count-pairs-requires c =
    let a = c.args in
    let pic = picture a.t.boxes.now a.t.rows.now a.t.arrows.now in
    early-sound pic a.scratch.now _ (mode-early pic a.scratch.now a.mode) (sym c.early_entry.ensures ∙ c.in_ok-early_entry.was)

pub returns-in_err-check_room : goal.returns-in_err-check_room
unfolding matrix_early
returns-in_err-check_room c = search (rules, refused-by, passed-by)

pub returns : goal.returns
unfolding matrix_early
returns c = search (rules, refused-by, passed-by)
