-- `lists::early_list` meets its contract: checks 1 to 7 refuse, or leave 8 and 9 their facts. Assumes nothing.
use mathlib.Core.Path.{sym, ◌∙◌}
use borrow.Author.Rules.{rules}
use Rattle.base.proofs.Options.{or_else-assoc}
use Rattle.tables.proofs.TableLaws.{sound-rows}
use Rattle.tables.proofs.Verdicts.{passed, refused-by, passed-by}
use Rattle.scratch.proofs.PictureLaws.{mode-is}
use Rattle.list_meaning.proofs.CallLaws.{early-is}
use Rattle.lists.proofs.early_list.Goals as goal

pub returns-in_err-check : goal.returns-in_err-check
returns-in_err-check c = rw (early-is, mode-is, or_else-assoc, or_else-assoc) (search (rules, refused-by, passed-by))

pub returns-in_err-check_mode : goal.returns-in_err-check_mode
returns-in_err-check_mode c = rw (early-is, mode-is, or_else-assoc, or_else-assoc) (search (rules, refused-by, passed-by))

pub check_scratch-requires : goal.check_scratch-requires
check_scratch-requires c =
    let t = c.args.t in
    (sound-rows t.boxes.now t.rows.now t.arrows.now (passed _ (sym c.check.ensures ∙ c.in_ok-check.was))).few-boxes

pub returns-in_err-check_scratch : goal.returns-in_err-check_scratch
returns-in_err-check_scratch c = rw (early-is, mode-is, or_else-assoc, or_else-assoc) (search (rules, refused-by, passed-by))

pub returns-in_err-check_room : goal.returns-in_err-check_room
returns-in_err-check_room c = rw (early-is, mode-is, or_else-assoc, or_else-assoc) (search (rules, refused-by, passed-by))

pub pair_count-requires : goal.pair_count-requires
pair_count-requires c =
    let t = c.args.t in
    sound-rows t.boxes.now t.rows.now t.arrows.now (passed _ (sym c.check.ensures ∙ c.in_ok-check.was))

pub returns : goal.returns
returns c = rw (early-is, mode-is, or_else-assoc, or_else-assoc) (search (rules, refused-by, passed-by))
