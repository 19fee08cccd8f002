-- Laws for the proofs of this crate.
pub mod LeftLaws
pub mod SortLaws
