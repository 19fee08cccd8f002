-- `rights_c::rights_atoms` meets its contract: the reply of the call beneath. Assumes nothing.
use mathlib.Core.Path.{ap, ◌∙◌}
use Rattle.rights_c.specs.Steps.{answer_reply}
use Rattle.rights_c.proofs.ReplyLaws.{heading-reply}
use Rattle.rights_c.proofs.rights_atoms.Goals as goal

pub returns : goal.returns
returns c = record {
  value = c.reply_of.ensures ∙ ap (answer_reply _) c.atomic_boxes.ensures.value ∙ heading-reply _ _ _;
  users_after = c.atomic_boxes.ensures.users_after;
  files_after = c.atomic_boxes.ensures.files_after;
}
