-- Laws for the proofs of this crate and of the crates above it.
pub mod Putting
pub mod Walking
pub mod RecordLaws
pub mod Standing
