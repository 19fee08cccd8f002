-- `rights_c::rights_judge` meets its contract: the reply of the call beneath. Assumes nothing.
use mathlib.Core.Path.{ap, ◌∙◌}
use Rattle.rights_c.specs.Steps.{answer_reply}
use Rattle.rights_c.proofs.ReplyLaws.{verdict-reply}
use Rattle.rights_c.proofs.rights_judge.Goals as goal

pub returns : goal.returns
returns c = record {
  result_value = c.reply_of.ensures ∙ ap (answer_reply _) c.judge.ensures.result_value ∙ verdict-reply _;
  scratch_after = c.judge.ensures.scratch_after;
}
