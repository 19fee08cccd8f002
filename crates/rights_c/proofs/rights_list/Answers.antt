-- `rights_c::rights_list` meets its contract: the reply of the call beneath. Assumes nothing.
use mathlib.Core.Path.{ap, ◌∙◌}
use Rattle.rights_c.specs.Steps.{answer_reply}
use Rattle.rights_c.proofs.ReplyLaws.{list-reply}
use Rattle.rights_c.proofs.rights_list.Goals as goal

pub returns : goal.returns
returns c = record {
  result_value = c.reply_of.ensures ∙ ap (answer_reply _) c.list.ensures.result_value ∙ list-reply _ _ _;
  scratch_after = c.list.ensures.scratch_after;
  list_after = c.list.ensures.out_after;
  work_after = c.list.ensures.work_after;
}
