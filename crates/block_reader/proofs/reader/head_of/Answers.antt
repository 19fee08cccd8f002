-- The file has the block, so the reader sees its head. Assumes nothing.
use Rattle.std.proofs.Common.{rules}
use borrow.Author.Tests.{lt-ltb}
use Rattle.block_reader.specs.Reader.{seen_at}
use Rattle.block_reader.proofs.reader.head_of.Goals as goal

pub unwrap-requires : goal.unwrap-requires
unfolding seen_at
unwrap-requires c = rw (c.head_at.ensures, lt-ltb _ _ c.requires)

pub returns : goal.returns
unfolding seen_at
returns c = let e = rw (c.head_at.ensures, lt-ltb _ _ c.requires) at c.unwrap.ensures in search rules
