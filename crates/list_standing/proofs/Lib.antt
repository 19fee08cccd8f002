-- Laws for the proofs of this crate and of the crates above it.
pub mod SomeLaws
pub mod StandLaws
pub mod AnyInLaws
