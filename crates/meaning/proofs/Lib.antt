-- Laws for the proofs of this crate and of the crates above it.
pub mod AnswerLaws
pub mod CertificateLaws
pub mod SettleLaws
pub mod PairLaws
pub mod ClearLaws
pub mod EmptiedLaws
pub mod GrantLaws
pub mod ModeLaws
pub mod SamePictures
pub mod SameUsers
pub mod RowPairs
pub mod MatrixLaws
