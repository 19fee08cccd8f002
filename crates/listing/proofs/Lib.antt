-- Laws for the proofs of this crate and of the crates above it.
mod ModeLaws
mod RowLaws
mod AskLaws
pub mod StandLaws
pub mod WholeLaws
pub mod ChunkLaws
pub mod FileLaws
