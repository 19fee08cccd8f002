-- Laws for the proofs of this crate and of the crates above it.
pub mod Taking
pub mod KindLaws
pub mod Writing
pub mod Filing
