-- `rights_c::rights_pack` meets its contract: the reply of the call beneath. Assumes nothing.
use mathlib.Core.Path.{ap, ◌∙◌}
use Rattle.rights_c.specs.Steps.{answer_reply}
use Rattle.rights_c.proofs.ReplyLaws.{pack-reply}
use Rattle.rights_c.proofs.rights_pack.Goals as goal

pub returns : goal.returns
returns c = record {
  result_value = c.reply_of.ensures ∙ ap (answer_reply _) c.pack.ensures.result_value ∙ pack-reply _ _;
  file_after = c.pack.ensures.file_after;
}
