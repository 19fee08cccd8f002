pub mod Fnv
pub mod Blocks
pub mod Files
pub mod Reads
pub mod Steps
