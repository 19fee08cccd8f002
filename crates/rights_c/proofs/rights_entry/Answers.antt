-- `rights_c::rights_entry` meets its contract: the reply of the call beneath. Assumes nothing.
use mathlib.Core.Path.{ap, ◌∙◌}
use Rattle.rights_c.specs.Steps.{answer_reply}
use Rattle.rights_c.proofs.ReplyLaws.{asked-reply}
use Rattle.rights_c.proofs.rights_entry.Goals as goal

pub returns : goal.returns
returns c = record {
  result_value = c.reply_of.ensures ∙ ap (answer_reply _) c.one_entry.ensures.result_value ∙ asked-reply _ _;
  scratch_after = c.one_entry.ensures.scratch_after;
}
