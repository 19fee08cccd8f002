-- The part that is looked at is the filler; records that end at byte 508 or beyond leave none. Assumes nothing.
use borrow.Author.Tests.{le-ltb}
use Rattle.blocks.specs.Steps.{all_zero}
use Rattle.blocks.proofs.Filler.{filler-is}
use Rattle.blocks.proofs.Parts.{drop-take, covered_none}
use Rattle.blocks.proofs.block.Block.wrong_filler.Goals as goal

pub returns-then-end-lt-COVERED : goal.returns-then-end-lt-COVERED
returns-then-end-lt-COVERED c = rw (c.all_zero.ensures, filler-is, ← c.records_end-end.ensures, drop-take)

pub returns-else-end-lt-COVERED : goal.returns-else-end-lt-COVERED
unfolding all_zero
returns-else-end-lt-COVERED c = let h = c.if-end-lt-COVERED.false in
    rw (filler-is, ← c.records_end-end.ensures, covered_none c.args.self.bytes.now 508 _ h)
    (le-ltb _ _ h)
