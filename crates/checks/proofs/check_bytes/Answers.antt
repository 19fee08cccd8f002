-- `checks::check_bytes` meets its contract: the library's search finds the lowest byte above 3. Assumes nothing.
use mathlib.Core.Path.{sym, ap, ◌∙◌}
use lib.Dec.{ltb}
use Rattle.base.proofs.SearchLaws.{position-first}
use Rattle.tables.proofs.FaultLaws.{byte_fault-is}
use Rattle.tables.specs.Refusals.{verdict_of}
use Rattle.tables.specs.declared.Refusal.TheVariants.{BadByte}
use Rattle.checks.proofs.check_bytes.Goals as goal

pub returns-in-Some : goal.returns-in-Some
returns-in-Some c = let boxes = c.args.boxes.now in
    sym (ap verdict_of (byte_fault-is boxes ∙ position-first (ltb 3) BadByte boxes _ (sym c.in-Some.is ∙ c.bad_byte.ensures)))

pub returns-in-None : goal.returns-in-None
returns-in-None c = let boxes = c.args.boxes.now in
    sym (ap verdict_of (byte_fault-is boxes ∙ position-first (ltb 3) BadByte boxes _ (sym c.in-None.is ∙ c.bad_byte.ensures)))
