-- `atoms::atoms_of` meets its contract: the marks are those of the outer boxes. Assumes nothing.
use mathlib.Core.Path.{◌≡◌, ap, ◌∙◌}
use native.Mathlib.Omega.{arith}
use lib.ListN.{length}
use Rattle.base.specs.Buffers.{zeros}
use Rattle.base.proofs.Bits.{bit_is}
use Rattle.base.proofs.BufferLaws.{zeros-is, zeros-length, zeros-at}
use Rattle.tables.proofs.RowLaws.{outer-none}
use Rattle.atoms.proofs.MarkLaws.{unmarked-atoms}
use Rattle.atoms.proofs.atoms_of.Goals.{After-filled-marks, After-mark_outer}
use Rattle.atoms.proofs.atoms_of.Goals as goal

made : (c : After-filled-marks) → c.filled-marks.result ≡ zeros 256
made c = c.filled-marks.ensures ∙ zeros-is 256

marks-len : (c : After-mark_outer) → length c.mark_outer.new.marks ≡ 256
marks-len c = c.mark_outer.auto.marks ∙ ap length (c.filled-marks.ensures ∙ zeros-is 256) ∙ zeros-length 256

pub mark_outer-requires : goal.mark_outer-requires
mark_outer-requires c =
    let clear = made (goal.at.mark_outer-requires c).After-filled-marks in
    let len : length c.filled-marks.result ≡ 256 = ap length clear ∙ zeros-length 256 in
    let few = c.requires.0.few-boxes in
    record {
      rows_len = c.requires.0.whole;
      by_index = λ k h. omega (arith, c.requires.0.outer-there k h);
      marks = λ b h. rw (clear, outer-none, bit_is) (zeros-at 256 b (omega arith));
    }

pub gather-requires : goal.gather-requires
gather-requires c =
    let len = marks-len (goal.at.gather-requires c).After-mark_outer in
    (omega arith, omega arith, omega arith)

pub returns : goal.returns
returns c =
    let a = c.args in
    let len = marks-len (goal.at.returns c).After-mark_outer in
    rw (← unmarked-atoms a.boxes.now a.rows.now c.mark_outer.new.marks a.side c.mark_outer.ensures (omega arith))
    c.gather.ensures
