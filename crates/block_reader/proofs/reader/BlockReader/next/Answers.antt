-- The test is the definition's. Assumes nothing.
use Rattle.std.proofs.Common.{refl}
use borrow.Author.Tests.{le-ltb, lt-ltb}
use Rattle.block_reader.specs.Reader.{next_block}
use Rattle.block_reader.proofs.reader.BlockReader.next.Goals as goal

pub returns-then-self : goal.returns-then-self
unfolding next_block
returns-then-self c = (refl, simp (lt-ltb _ _ c.if-self.true))

pub returns : goal.returns
unfolding next_block
returns c = (refl, simp (le-ltb _ _ c.if-self.false))
