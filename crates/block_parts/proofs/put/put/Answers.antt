-- The part of the file that is overwritten. Assumes nothing.
use Rattle.std.proofs.Common.{◌≡◌, ◌+◌, ◌-◌, length, arith}
use Rattle.block_parts.proofs.Putting.{put-part}
use Rattle.block_parts.proofs.put.put.Goals as goal

pub returns : goal.returns
returns c = let a = c.args in
    let e : a.at + length a.bytes.now - a.at ≡ length a.bytes.now = omega arith in
    rw (c.copy_from_slice.ensures.after, e) (put-part a.file.now a.bytes.now a.at c.requires)
