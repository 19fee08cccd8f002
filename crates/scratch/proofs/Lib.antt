-- Laws for the proofs of this crate and of the crates above it.
pub mod DrawnLaws
pub mod ScratchLaws
pub mod PictureLaws
mod SpreadLaws
mod MarkLaws
