-- `matrices::fill_matrix` meets its contract: the rows of the users before i are written. Assumes nothing.
use mathlib.Core.Path.{◌∙◌}
use borrow.Author.Rules.{rules}
use Rattle.base.proofs.BufferLaws.{zeros-is}
use Rattle.user_rows.proofs.BlankLaws.{blank-is}
use Rattle.user_kinds.proofs.TakenLaws.{Taken, taken}
use Rattle.matrices.proofs.FillLaws.{Room, rows_none, rows_all, alike-cells, own-cells, row_room, rows_more}
use Rattle.matrices.proofs.fill_matrix.Goals.{After-take_mode-count, In-loop-i}
use Rattle.matrices.proofs.fill_matrix.Goals.{then-j-i, else-j-i}
use Rattle.matrices.proofs.fill_matrix.Goals as goal

-- the mode's arrows
mode : (c : After-take_mode-count) →
    Taken c.args.arrows.now c.args.mode c.take_mode-count.result c.take_mode-count.new.own c.take_mode-count.new.heads
mode c =
    let took = c.take_mode-count.ensures in
    taken _ _ c.requires.0 _ _ _ _ (c.filled-own.ensures ∙ zeros-is 512) (took.value, (took.own_after, took.mode_sets))

-- the row has its places
room : (turn : In-loop-i) → Room turn.args.files.now turn.loop-i.i turn.loop-i.bytes turn.loop-i.numbers
room turn = row_room turn.loop-i.invariant (search rules) (turn.requires.3, turn.requires.4)

pub take_mode-count-requires : goal.take_mode-count-requires
take_mode-count-requires c = (c.requires.0, search rules, c.filled-heads.ensures ∙ zeros-is _)

pub loop-i-init : goal.loop-i-init
loop-i-init c = rows_none (c.filled-notes.ensures ∙ zeros-is _)

pub answer_row-row-requires : goal.answer_row-row-requires
answer_row-row-requires c = (
  (mode (goal.at.answer_row-row-requires c).After-take_mode-count).sized c.args.closure.now (search rules),
  search rules,
  c.filled-found.ensures ∙ blank-is,
)

pub emit_row-requires : goal.emit_row-requires
emit_row-requires c = let there = room (goal.at.emit_row-requires c).In-loop-i in (c.requires.2, search rules, there.0, there.1)

-- w is what a branch did
pub loop-i-preserved : goal.loop-i-preserved
loop-i-preserved c =
    let rows = c.loop-i.invariant in
    let noted = c.alike-j.ensures.upper_bound.1 in
    let there = room (goal.at.loop-i-preserved c).In-loop-i in
    let taken = mode (goal.at.loop-i-preserved c).After-take_mode-count in
    elim c.if-j-i.branch [
      | then-j-i w ↦
          rw (w.bytes-is, w.numbers-is)
          (rows_more rows (search rules) there noted (alike-cells rows taken w.if-j-i.true c.alike-j.ensures.alike)
          (w.copy_row.ensures.bytes_after, w.copy_row.ensures.numbers_after))
      | else-j-i w ↦
          let cells = own-cells rows (search rules) c.of-asked.result w.answer_row-row.new.numbers taken w.from-u.ensures c.of-asked.ensures
          w.answer_row-row.ensures in
          rw (w.bytes-is, w.numbers-is)
          (rows_more rows (search rules) there noted cells (w.emit_row.ensures.bytes_after, w.emit_row.ensures.numbers_after))
    ]

pub returns : goal.returns
returns c = rows_all c.loop-i.invariant (search rules)

pub slice_bounds-own-end : goal.slice_bounds-own-end
slice_bounds-own-end c = (mode (goal.at.slice_bounds-own-end c).After-take_mode-count).within

pub slice_bounds-own-end-2 : goal.slice_bounds-own-end-2
slice_bounds-own-end-2 c = (mode (goal.at.slice_bounds-own-end-2 c).After-take_mode-count).len
