-- The test is the definition's. Assumes nothing.
use borrow.Author.Tests.{le-ltb, lt-ltb}
use Rattle.block_reader.specs.Reader.{seen_at}
use Rattle.block_reader.proofs.reader.BlockReader.seen.Goals as goal

pub returns-then-self : goal.returns-then-self
unfolding seen_at
returns-then-self c = simp (c.head.ensures, c.at.ensures, lt-ltb _ _ c.if-self.true)

pub returns : goal.returns
unfolding seen_at
returns c = simp (le-ltb _ _ c.if-self.false)
