-- The bytes of a head. Assumes nothing.
use Rattle.std.proofs.Common.{◌≡◌, ◌/◌, ◌%◌, arith}
use Rattle.packing.proofs.PackedLaws.{head-is, bytes16-is}
use Rattle.block_parts.proofs.put.put_head.Goals as goal

pub returns : goal.returns
returns c = let a = c.args in
    let n : a.number / 256 % 256 ≡ a.number / 256 = omega arith in
    let k : a.count / 256 % 256 ≡ a.count / 256 = omega arith in
    rw (c.put.ensures, c.to_le_bytes-n.ensures, c.to_le_bytes-c.ensures, n, k, head-is, bytes16-is a.number, bytes16-is a.count)
