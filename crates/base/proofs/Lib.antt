-- Laws for the proofs of this crate and of the crates above it.
pub mod Tests
pub mod Options
pub mod SearchLaws
pub mod AnyLaws
pub mod SelectLaws
pub mod FoldLaws
pub mod Bits
pub mod BufferLaws
pub mod PartLaws
pub mod Index
