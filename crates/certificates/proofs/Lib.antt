-- Laws for the proofs of this crate and of the crates above it.
pub mod SignLaws
pub mod ReachLaws
pub mod BlockLaws
mod OutsideLaws
mod OutsideWalk
mod NearLaws
mod BlockSteps
