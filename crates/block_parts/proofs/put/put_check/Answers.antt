-- The check is that of the 508 bytes from the block's first on. Assumes nothing.
use Rattle.std.proofs.Common.{◌≡◌, List, ℕ, ◌+◌, ◌-◌, ◌^◌, ◌<◌, ◌∙◌, sym, ap, take, drop, arith}
use Rattle.std.proofs.lemmas.List.Edits.{sets}
use Rattle.packing.specs.Packed.{bytes32}
use Rattle.blocks.specs.Fnv.{fnv1a}
use Rattle.blocks.proofs.MadeBlocks.{check-is, check-small}
use Rattle.block_parts.proofs.Putting.{bytes-32}
use Rattle.block_parts.proofs.put.put_check.Goals as goal

pub returns : goal.returns
returns c = let a = c.args in
    let e : a.at + 508 - a.at ≡ 508 = omega arith in
    let s : c.part-check.result.state ≡ fnv1a (take 508 (drop a.at a.file.now)) =
    c.part-check.ensures ∙ rw (c.fresh.ensures, e) (sym (check-is _)) in
    let h : c.part-check.result.state < 2 ^ 32 = rw s (check-small _) in
    c.put.ensures
    ∙ ap (λ (l : List ℕ). sets a.file.now (a.at + 508) l) (c.to_le_bytes.ensures ∙ bytes-32 _ h ∙ ap bytes32 s)
