-- Laws for the proofs of this crate and of the crates above it.
pub mod AlikeLaws
pub mod TakenLaws
pub mod AtomLaws
pub mod RowLaws
