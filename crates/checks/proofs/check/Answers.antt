-- `checks::check` meets its contract: the checks one after the other. Assumes nothing.
use mathlib.Core.Path.{◌≡◌}
use Rattle.std.specs.Prelude.{Err}
use borrow.Author.Rules.{rules}
use Rattle.tables.specs.Refusals.{verdict_of}
use Rattle.tables.specs.declared.Refusal.TheVariants.{NoBox, AcrossSides, WrongEnds, WrongMode}
use Rattle.tables.specs.Rows.{row_count, row_at, arrow_count, arrow_at}
use Rattle.tables.specs.Faults.{row_fault, names_no_box, across_sides, wrong_ends, wrong_mode}
use Rattle.tables.proofs.FaultLaws.{table_fault-is}
use Rattle.tables.proofs.Verdicts.{refused-by, passed-by}
use Rattle.checks.proofs.check.Goals.{After-check_rows, After-check_rows-2, After-check_rows-3, After-check_rows-4}
use Rattle.checks.proofs.check.Goals as goal

-- what each check of rows answers
four : (c : After-check_rows) → let a = c.args in
    c.check_rows.result ≡ verdict_of (row_fault NoBox (λ k. names_no_box a.t.boxes.now (row_at a.t.rows.now k)) (row_count a.t.rows.now))
four c = search rules

five : (c : After-check_rows-2) → let a = c.args in
    c.check_rows-2.result ≡ verdict_of (row_fault AcrossSides (λ k. across_sides a.t.boxes.now (row_at a.t.rows.now k)) (row_count a.t.rows.now))
five c = search rules

six : (c : After-check_rows-3) → let a = c.args in
    c.check_rows-3.result ≡ verdict_of (row_fault WrongEnds (λ k. wrong_ends a.t.boxes.now (arrow_at a.t.arrows.now k)) (arrow_count a.t.arrows.now))
six c = search rules

seven : (c : After-check_rows-4) → let a = c.args in
    c.check_rows-4.result ≡ verdict_of (row_fault WrongMode (λ k. wrong_mode (arrow_at a.t.arrows.now k)) (arrow_count a.t.arrows.now))
seven c = search rules

pub returns-in_err-check_ragged : goal.returns-in_err-check_ragged
returns-in_err-check_ragged c =
    let e : c.from_residual.result ≡ Err c.in_err-check_ragged.field-0.0 = search rules in
    rw table_fault-is
    (refused-by _ _ _ _ _ c.check_ragged.ensures c.in_err-check_ragged.was e)

pub returns-in_err-check_counts : goal.returns-in_err-check_counts
returns-in_err-check_counts c =
    let e : c.from_residual-in_err-check_counts.result ≡ Err c.in_err-check_counts.field-0.0 = search rules in
    rw table_fault-is
    (passed-by _ _ _ _ c.check_ragged.ensures c.in_ok-check_ragged.was
    (refused-by _ _ _ _ _ c.check_counts.ensures c.in_err-check_counts.was e))

pub returns-in_err-check_bytes : goal.returns-in_err-check_bytes
returns-in_err-check_bytes c =
    let e : c.from_residual-in_err-check_bytes.result ≡ Err c.in_err-check_bytes.field-0.0 = search rules in
    rw table_fault-is
    (passed-by _ _ _ _ c.check_ragged.ensures c.in_ok-check_ragged.was
    (passed-by _ _ _ _ c.check_counts.ensures c.in_ok-check_counts.was
    (refused-by _ _ _ _ _ c.check_bytes.ensures c.in_err-check_bytes.was e)))

pub returns-in_err-check_rows : goal.returns-in_err-check_rows
returns-in_err-check_rows c =
    let e : c.from_residual-in_err-check_rows.result ≡ Err c.in_err-check_rows.field-0.0 = search rules in
    rw table_fault-is
    (passed-by _ _ _ _ c.check_ragged.ensures c.in_ok-check_ragged.was
    (passed-by _ _ _ _ c.check_counts.ensures c.in_ok-check_counts.was
    (passed-by _ _ _ _ c.check_bytes.ensures c.in_ok-check_bytes.was
    (refused-by _ _ _ _ _ (four (goal.at.returns-in_err-check_rows c).After-check_rows) c.in_err-check_rows.was e))))

pub returns-in_err-check_rows-2 : goal.returns-in_err-check_rows-2
returns-in_err-check_rows-2 c =
    let e : c.from_residual-in_err-check_rows-2.result ≡ Err c.in_err-check_rows-2.field-0.0 = search rules in
    rw table_fault-is
    (passed-by _ _ _ _ c.check_ragged.ensures c.in_ok-check_ragged.was
    (passed-by _ _ _ _ c.check_counts.ensures c.in_ok-check_counts.was
    (passed-by _ _ _ _ c.check_bytes.ensures c.in_ok-check_bytes.was
    (passed-by _ _ _ _ (four (goal.at.returns-in_err-check_rows-2 c).After-check_rows) c.in_ok-check_rows.was
    (refused-by _ _ _ _ _ (five (goal.at.returns-in_err-check_rows-2 c).After-check_rows-2) c.in_err-check_rows-2.was e)))))

pub returns-in_err-check_rows-3 : goal.returns-in_err-check_rows-3
returns-in_err-check_rows-3 c =
    let e : c.from_residual-in_err-check_rows-3.result ≡ Err c.in_err-check_rows-3.field-0.0 = search rules in
    rw table_fault-is
    (passed-by _ _ _ _ c.check_ragged.ensures c.in_ok-check_ragged.was
    (passed-by _ _ _ _ c.check_counts.ensures c.in_ok-check_counts.was
    (passed-by _ _ _ _ c.check_bytes.ensures c.in_ok-check_bytes.was
    (passed-by _ _ _ _ (four (goal.at.returns-in_err-check_rows-3 c).After-check_rows) c.in_ok-check_rows.was
    (passed-by _ _ _ _ (five (goal.at.returns-in_err-check_rows-3 c).After-check_rows-2) c.in_ok-check_rows-2.was
    (refused-by _ _ _ _ _ (six (goal.at.returns-in_err-check_rows-3 c).After-check_rows-3) c.in_err-check_rows-3.was e))))))

pub returns : goal.returns
returns c =
    rw table_fault-is
    (passed-by _ _ _ _ c.check_ragged.ensures c.in_ok-check_ragged.was
    (passed-by _ _ _ _ c.check_counts.ensures c.in_ok-check_counts.was
    (passed-by _ _ _ _ c.check_bytes.ensures c.in_ok-check_bytes.was
    (passed-by _ _ _ _ (four (goal.at.returns c).After-check_rows) c.in_ok-check_rows.was
    (passed-by _ _ _ _ (five (goal.at.returns c).After-check_rows-2) c.in_ok-check_rows-2.was
    (passed-by _ _ _ _ (six (goal.at.returns c).After-check_rows-3) c.in_ok-check_rows-3.was
    (seven (goal.at.returns c).After-check_rows-4)))))))
