-- Laws for the proofs of this crate and of the crates above it.
mod CallLaws
pub mod ReplyLaws
