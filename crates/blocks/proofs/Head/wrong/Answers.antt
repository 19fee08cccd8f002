-- The tests are those of the definition; a kind is 1 to 3. Assumes nothing.
use Rattle.std.proofs.Common.{sym}
use Rattle.blocks.proofs.Heads.{no-kind-wrong, kind-wrong, number-low, number-high}
use Rattle.blocks.proofs.Head.wrong.Goals as goal

pub returns-in_default : goal.returns-in_default
returns-in_default c = sym (no-kind-wrong _ _ _ c.in_default.ensures)

pub returns : goal.returns
returns c =
    let kind = c.in-Ok.kind in
    let e = c.in-Ok.ensures in
    rw (c.from.ensures, c.capacity.ensures, c.from-2.ensures, e) (sym (kind-wrong _ _ _ (rw e at (number-low kind)) (rw e at (number-high kind))))
