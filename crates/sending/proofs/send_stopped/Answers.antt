-- `sending::send_stopped` meets its contract: the line is all that goes out. Assumes nothing.
use mathlib.Core.List.{[]}
use Rattle.listing.proofs.FileLaws.{held}
use Rattle.sending.proofs.Going.{sent-part}
use Rattle.sending.proofs.send_stopped.Goals as goal

pub returns-clause-check : goal.returns-clause-check
returns-clause-check g c = sent-part [] c.send.result c.fresh.ensures c.stopped-n.ensures c.send.ensures.check

pub returns-clause-bytes : goal.returns-clause-bytes
returns-clause-bytes g c = rw (held c.stopped-n.ensures) at c.send.ensures.bytes
