-- Laws for the proofs of this crate and of the crates above it.
pub mod PackedLaws
pub mod CallLaws
pub mod Lengths
pub mod Chunks
pub mod Regular
pub mod BlockSays
pub mod PackedBlocks
pub mod ReadBack
pub mod PackedRegular
pub mod PackedBytes
pub mod Runs
pub mod BlockIs
pub mod KindRuns
pub mod SaidRows
pub mod OnePacking
