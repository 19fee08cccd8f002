-- Laws for the proofs of this crate.
pub mod CountLaws
pub mod OwnPart
