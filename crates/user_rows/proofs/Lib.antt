-- Laws for the proofs of this crate and of the crates above it.
mod StepLaws
mod ShowLaws
mod RowAnswers
mod RowWalk
mod RowSorts
mod EntryLaws
pub mod BlankLaws
