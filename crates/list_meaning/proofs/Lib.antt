-- Laws for the proofs of this crate and of the crate above it.
pub mod PlaceLaws
pub mod CountLaws
pub mod MatchLaws
pub mod GreedyLaws
pub mod NextLaws
pub mod OrderLaws
pub mod CallLaws
pub mod ConditionLaws
pub mod FixedLaws
pub mod SameLists
pub mod CallerLaws
