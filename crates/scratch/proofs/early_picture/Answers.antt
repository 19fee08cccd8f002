-- `scratch::early_picture` meets its contract: checks 1 to 7 refuse, or leave 9 its facts. Assumes nothing.
use mathlib.Core.Path.{sym, ◌∙◌}
use borrow.Author.Rules.{rules}
use Rattle.tables.proofs.TableLaws.{sound-rows}
use Rattle.tables.proofs.Verdicts.{passed, refused-by, passed-by}
use Rattle.scratch.specs.Scratch.{early_fault}
use Rattle.scratch.proofs.early_picture.Goals as goal

pub returns-in_err-check : goal.returns-in_err-check
unfolding early_fault
returns-in_err-check c = search (rules, refused-by, passed-by)

pub check_scratch-requires : goal.check_scratch-requires
check_scratch-requires c =
    let a = c.args in
    (sound-rows a.t.boxes.now a.t.rows.now a.t.arrows.now (passed _ (sym c.check.ensures ∙ c.in_ok-check.was))).few-boxes

pub returns : goal.returns
unfolding early_fault
returns c = search (rules, refused-by, passed-by)
