-- Laws for the proofs of this crate and of the crate above it.
pub mod HeadingLaws
