-- The part of the file that is overwritten. Assumes nothing.
use Rattle.std.proofs.Common.{◌≡◌, ◌+◌, ◌-◌, length, take, drop, length-take, length-drop, arith}
use Rattle.base.specs.Buffers.{zeros}
use Rattle.base.proofs.BufferLaws.{zeros-is, zeros-length}
use Rattle.block_parts.proofs.Putting.{put-part}
use Rattle.block_parts.proofs.put.put_zeros.Goals as goal

pub returns : goal.returns
returns c = let a = c.args in
    let e : a.at + a.count - a.at ≡ a.count = omega arith in
    let l : length (take a.count (drop a.at a.file.now)) ≡ a.count = simp (length-take, length-drop) (omega arith) in
    let f : c.fill.new.self ≡ zeros a.count = rw (e, l, zeros-is) at (c.fill.ensures.after (λ y h. h)) in
    rw (e, f) (rw zeros-length at (put-part a.file.now (zeros a.count) a.at (rw zeros-length c.requires)))
