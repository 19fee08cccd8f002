pub mod Rows
pub mod Refusals
pub mod Faults
pub mod Atoms
pub mod Cases
pub mod Steps
