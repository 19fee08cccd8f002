-- Counts that pass check 2 are small enough to be doubled; then the three buffers in turn. Assumes nothing.
use Rattle.std.proofs.Common.{◌≡◌, Err, sym, ◌∙◌, arith, rules}
use Rattle.tables.proofs.TableLaws.{counts-passed}
use Rattle.tables.proofs.Verdicts.{passed, refused, refuses, passes}
use Rattle.blocks.proofs.Order.{by-counts, by-rooms}
use Rattle.block_files.proofs.into_tables.check_tables.Goals as goal

pub returns-in_err-check_counts : goal.returns-in_err-check_counts
returns-in_err-check_counts c =
    let e : c.from_residual.result ≡ Err c.in_err-check_counts.field-0.0 = search rules in
    rw (by-counts _ _ _ _ (refused _ _ (sym c.check_counts.ensures ∙ c.in_err-check_counts.was))) e

pub overflow_mul-counts : goal.overflow_mul-counts
overflow_mul-counts c = omega (arith, counts-passed _ _ _ (passed _ (sym c.check_counts.ensures ∙ c.in_ok-check_counts.was)))

pub overflow_mul-counts-2 : goal.overflow_mul-counts-2
overflow_mul-counts-2 c = omega (arith, counts-passed _ _ _ (passed _ (sym c.check_counts.ensures ∙ c.in_ok-check_counts.was)))

pub returns-in_err-check_room : goal.returns-in_err-check_room
returns-in_err-check_room c =
    let e : c.from_residual-in_err-check_room.result ≡ Err c.in_err-check_room.field-0.0 = search rules in
    rw (by-rooms _ _ _ _ (passed _ (sym c.check_counts.ensures ∙ c.in_ok-check_counts.was)))
    (e ∙ refuses _ _ _ (sym c.check_room.ensures ∙ c.in_err-check_room.was))

pub returns-in_err-check_room-2 : goal.returns-in_err-check_room-2
returns-in_err-check_room-2 c =
    let e : c.from_residual-in_err-check_room-2.result ≡ Err c.in_err-check_room-2.field-0.0 = search rules in
    rw (by-rooms _ _ _ _ (passed _ (sym c.check_counts.ensures ∙ c.in_ok-check_counts.was)))
    (e ∙ refuses _ _ _ (sym c.check_room-2.ensures ∙ c.in_err-check_room-2.was)
    ∙ passes _ _ (sym c.check_room.ensures ∙ c.in_ok-check_room.was))

pub returns : goal.returns
returns c =
    rw (by-rooms _ _ _ _ (passed _ (sym c.check_counts.ensures ∙ c.in_ok-check_counts.was)))
    (c.check_room-3.ensures ∙ passes _ _ (sym c.check_room-2.ensures ∙ c.in_ok-check_room-2.was)
    ∙ passes _ _ (sym c.check_room.ensures ∙ c.in_ok-check_room.was))
