pub mod Grid
pub mod Bits
pub mod Steps
