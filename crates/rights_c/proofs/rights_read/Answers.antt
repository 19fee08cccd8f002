-- `rights_c::rights_read` meets its contract: the reply of the call beneath. Assumes nothing.
use mathlib.Core.Path.{ap, ◌∙◌}
use Rattle.rights_c.specs.Steps.{answer_reply}
use Rattle.rights_c.proofs.ReplyLaws.{read-reply}
use Rattle.rights_c.proofs.rights_read.Goals as goal

pub returns : goal.returns
returns c = record {
  result_value = c.reply_of.ensures ∙ ap (answer_reply _) c.read.ensures.result_value ∙ read-reply _ _;
  boxes_after = c.read.ensures.boxes_after;
  rows_after = c.read.ensures.rows_after;
  arrows_after = c.read.ensures.arrows_after;
}
