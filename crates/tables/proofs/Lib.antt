-- Laws for the proofs of this crate and of the crates above it.
pub mod Verdicts
pub mod FaultLaws
pub mod TableLaws
pub mod RowLaws
pub mod GroupLaws
pub mod AtomPlaces
pub mod AtomSides
