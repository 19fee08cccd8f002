-- `answers::early::early_entry` meets its contract: checks 1 to 7 refuse, or leave 8 and 9 their facts. Assumes nothing.
use mathlib.Core.Path.{sym, ◌∙◌}
use borrow.Author.Rules.{rules}
use Rattle.tables.proofs.TableLaws.{sound-rows}
use Rattle.tables.proofs.Verdicts.{passed, refused-by, passed-by}
use Rattle.scratch.proofs.PictureLaws.{mode-is}
use Rattle.answers.proofs.early.early_entry.Goals as goal

pub returns-in_err-check : goal.returns-in_err-check
returns-in_err-check c = rw mode-is (search (rules, refused-by, passed-by))

pub returns-in_err-check_mode : goal.returns-in_err-check_mode
returns-in_err-check_mode c = rw mode-is (search (rules, refused-by, passed-by))

pub check_scratch-requires : goal.check_scratch-requires
check_scratch-requires c =
    let a = c.args in
    (sound-rows a.t.boxes.now a.t.rows.now a.t.arrows.now (passed _ (sym c.check.ensures ∙ c.in_ok-check.was))).few-boxes

pub returns : goal.returns
returns c = rw mode-is (search (rules, refused-by, passed-by))
