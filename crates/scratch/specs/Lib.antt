pub mod Scratch
pub mod Steps
pub mod Cases
