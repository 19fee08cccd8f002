-- `test_cases::pictures::prepare`: where the early checks pass, the tables are sound and the scratch suffices. Assumes nothing.
use mathlib.Core.Path.{sym, ◌∙◌}
use Rattle.base.proofs.BufferLaws.{zeros-is}
use Rattle.tables.proofs.Verdicts.{passed}
use Rattle.scratch.proofs.PictureLaws.{early-prepared}
use Rattle.test_cases.proofs.pictures.prepare.Goals as goal

pub prepare-requires : goal.prepare-requires
prepare-requires c =
    let a = c.args in
    let t = a.t in record {
      sound_rows = λ p.
          let ready = early-prepared t.boxes.now t.rows.now t.arrows.now a.scratch.now
          (passed _ (sym c.early_picture-early.ensures ∙ p)) in
          (ready.rows-sound, ready.room);
      closure_value = c.filled-closure.ensures ∙ zeros-is 2048;
    }
