-- Laws for the proofs of this crate.
pub mod TakeLaws
pub mod MarkLaws
pub mod GrowLaws
pub mod OwnLaws
pub mod TurnLaws
