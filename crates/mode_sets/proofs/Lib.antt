-- Laws for the proofs of this crate and of the crates above it.
pub mod SameLaws
mod ModeLaws
pub mod OwnLaws
pub mod HeadLaws
pub mod TailLaws
pub mod CallerLaws
