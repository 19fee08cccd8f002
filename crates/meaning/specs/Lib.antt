pub mod Meaning
pub mod Pairs
pub mod Steps
pub mod Cases
