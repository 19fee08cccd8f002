-- Laws for the proofs of this crate and of the crates above it.
pub mod NumberLaws
pub mod GridLaws
mod ByteLaws
mod RowLaws
