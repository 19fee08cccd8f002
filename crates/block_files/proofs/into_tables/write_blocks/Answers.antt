-- The loop's invariant: each table holds what the blocks before this one say, then what it held before. Assumes nothing.
use Rattle.std.proofs.Common.{◌≡◌, ◌<◌, sym, ◌∙◌, arith}
use Rattle.base.proofs.BufferLaws.{written_none}
use Rattle.blocks.specs.Files.{block_count, block_at}
use Rattle.blocks.proofs.Counting.{counts-none, tables-none, counts-more, boxes-more, rows_more, arrows-more}
use Rattle.block_files.proofs.Fits.{block-fits}
use Rattle.block_files.proofs.into_tables.write_blocks.Goals as goal

pub loop-place-init : goal.loop-place-init
loop-place-init c = record {
  counted = c.zero-at.ensures ∙ sym (counts-none _);
  boxes = rw (tables-none _).0 (sym (written_none _));
  rows = rw (tables-none _).1 (sym (written_none _));
  arrows = rw (tables-none _).2 (sym (written_none _));
}

pub put_block-at-requires-clause-block_fits : goal.put_block-at-requires-clause-block_fits
put_block-at-requires-clause-block_fits c = let l = c.loop-place in
    rw (c.at.ensures, l.invariant.counted, l.auto.boxes, l.auto.rows, l.auto.arrows)
    (block-fits c.args.file.now l.place _ _ _ c.requires (omega arith))

pub loop-place-preserved : goal.loop-place-preserved
loop-place-preserved c =
    let a = c.args in
    let l = c.loop-place in
    let p = c.put_block-at in
    let blocks = block_at a.file.now in
    let n = block_count a.file.now in
    let h : l.place < n = omega arith in record {
      counted = rw (p.ensures.value, c.at.ensures, l.invariant.counted) (sym (counts-more blocks l.place));
      boxes = rw (p.ensures.boxes_after, c.at.ensures, l.invariant.boxes, l.invariant.counted)
          (boxes-more blocks a.boxes.now l.place n h c.requires.boxes-fit);
      rows = rw (p.ensures.rows_after, c.at.ensures, l.invariant.rows, l.invariant.counted)
          (rows_more blocks a.rows.now l.place n h c.requires.rows_fit);
      arrows = rw (p.ensures.arrows_after, c.at.ensures, l.invariant.arrows, l.invariant.counted)
          (arrows-more blocks a.arrows.now l.place n h c.requires.arrows-fit);
    }

pub returns : goal.returns
returns c = let l = c.loop-place in
    let e : l.place ≡ block_count c.args.file.now = omega arith in
    record { boxes_after = rw e at l.invariant.boxes; rows_after = rw e at l.invariant.rows; arrows_after = rw e at l.invariant.arrows }
