-- Tail, head, then mode and sign, one behind the other. Assumes nothing.
use Rattle.std.proofs.Common.{◌≡◌, ◌∷◌, [], ◌++◌, ◌+◌, ◌%◌, ap, append_assoc, rules}
use Rattle.std.proofs.lemmas.List.Edits.{sets}
use Rattle.tables.specs.declared.Arrow.{Arrow}
use Rattle.packing.specs.Packed.{bytes16}
use Rattle.packing.proofs.PackedLaws.{arrow-is}
use Rattle.packing.proofs.Lengths.{two_bytes, four_bytes}
use Rattle.block_parts.proofs.Putting.{chain, put-16}
use Rattle.block_parts.proofs.records.ArrowRecordWritten.put.Goals as goal

pub returns : goal.returns
returns c =
    let r = c.at-a in
    let a = c.args in
    let tail = bytes16 r.result.tail in
    let head = bytes16 r.result.head in
    let low = r.result.mode % 256 ∷ r.result.sign % 256 ∷ [] in
    let one = put-16 a.file.now _ a.at r.result.tail _ (search rules) c.to_le_bytes.ensures c.put.ensures in
    let next = put-16 c.put.new.file _ _ r.result.head _ (search rules) c.to_le_bytes-2.ensures c.put-2.ensures in
    let two = chain a.file.now _ _ a.at 2 tail head (two_bytes _) one next in
    let last : c.put-3.new.file ≡ sets c.put-2.new.file (a.at + 4) low =
    rw (c.to_le_bytes-mode.ensures, c.to_le_bytes-sign.ensures) at c.put-3.ensures in
    let three = chain a.file.now _ _ a.at 4 (tail ++ head) low (four_bytes _ _) two last in
    rw (
      arrow-is,
      ← ap (λ (x : Arrow). x.tail) r.ensures,
      ← ap (λ (x : Arrow). x.head) r.ensures,
      ← ap (λ (x : Arrow). x.mode) r.ensures,
      ← ap (λ (x : Arrow). x.sign) r.ensures,
    ) (rw append_assoc at three)
