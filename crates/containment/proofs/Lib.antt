-- Laws for the proofs of this crate and of the crates above it.
pub mod ContainsLaws
pub mod ClosureLaws
pub mod RowBoxes
mod Rounds
mod ClosingLaws
mod SelvesLaws
