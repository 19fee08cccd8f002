-- Laws for the proofs of this crate and of the crates above it.
mod DecimalLaws
pub mod PutLaws
