-- Outer and inner box, one behind the other. Assumes nothing.
use Rattle.std.proofs.Common.{ap, rules}
use Rattle.tables.specs.declared.Containment.{Containment}
use Rattle.packing.specs.Packed.{bytes16}
use Rattle.packing.proofs.PackedLaws.{containment-is}
use Rattle.packing.proofs.Lengths.{two_bytes}
use Rattle.block_parts.proofs.Putting.{chain, put-16}
use Rattle.block_parts.proofs.records.ContainmentRecordWritten.put.Goals as goal

pub returns : goal.returns
returns c =
    let r = c.at-r in
    let a = c.args in
    let outer = put-16 a.file.now _ a.at r.result.outer _ (search rules) c.to_le_bytes.ensures c.put.ensures in
    let inner = put-16 c.put.new.file _ _ r.result.inner _ (search rules) c.to_le_bytes-2.ensures c.put-2.ensures in
    rw (containment-is, ← ap (λ (x : Containment). x.outer) r.ensures, ← ap (λ (x : Containment). x.inner) r.ensures)
    (chain a.file.now _ _ a.at 2 (bytes16 r.result.outer) (bytes16 r.result.inner) (two_bytes _) outer inner)
