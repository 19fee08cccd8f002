-- Laws for the proofs of this crate and of the crates above it.
pub mod WordLaws
pub mod LowBitLaws
pub mod MemberLaws
pub mod LeastLaws
pub mod LowLaws
pub mod WalkLaws
pub mod TakesLaws
mod ReachLaws
pub mod AmongLaws
pub mod TableLaws
pub mod JoinLaws
pub mod UnionLaws
