pub mod Search
pub mod Buffers
pub mod Steps
