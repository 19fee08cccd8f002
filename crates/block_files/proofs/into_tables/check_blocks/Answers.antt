-- The loop's invariant: no block before this one has a fault, and the counts are those of the blocks before it. Assumes nothing.
use Rattle.std.proofs.Common.{◌≡◌, Err, rules, sym, ◌∙◌, arith, add-one}
use Rattle.tables.proofs.Verdicts.{passed, refused}
use Rattle.blocks.specs.Files.{block_at, block_count}
use Rattle.blocks.proofs.MadeBlocks.{none_before, kind-after}
use Rattle.blocks.proofs.Counting.{counts-none, counts-more, few-counts, blocks_more, blocks-found}
use Rattle.block_files.proofs.into_tables.check_blocks.Goals as goal

pub loop-place-init : goal.loop-place-init
loop-place-init c = record {
  good = (none_before _).0;
  counted = c.zero-counts.ensures ∙ sym (counts-none _);
  kind = sym (none_before _).1;
}

pub returns-in_err-check_by : goal.returns-in_err-check_by
returns-in_err-check_by c = let l = c.loop-place in
    let file = c.args.file.now in
    let found = refused _ _ (sym c.check_by.ensures ∙ c.in_err-check_by.was) in
    let e : c.from_residual.result ≡ Err c.in_err-check_by.field-0.0 = search rules in
    rw (
      e,
      blocks-found (block_at file) l.place (block_count file) (omega arith) l.invariant.good
          (rw (c.at-block.ensures, l.invariant.kind) at found),
    )

pub with-counts-requires : goal.with-counts-requires
with-counts-requires c = let l = c.loop-place in
    let file = c.args.file.now in
    let few = few-counts (block_at file) l.place l.invariant.good in
    rw l.invariant.counted (omega arith)

pub loop-place-preserved : goal.loop-place-preserved
loop-place-preserved c = let l = c.loop-place in
    let file = c.args.file.now in
    let good = passed _ (sym c.check_by.ensures ∙ c.in_ok-check_by.was) in record {
      good = blocks_more (block_at file) l.place l.invariant.good (rw (c.at-block.ensures, l.invariant.kind) at good);
      counted = rw (c.with-counts.ensures, l.invariant.counted, c.head_of-head.ensures) (sym (counts-more (block_at file) l.place));
      kind = rw (c.head_of-head.ensures, add-one, kind-after);
    }

pub returns : goal.returns
returns c = let l = c.loop-place in
    let e : l.place ≡ block_count c.args.file.now = omega arith in
    rw (← e, l.invariant.good, l.invariant.counted)
