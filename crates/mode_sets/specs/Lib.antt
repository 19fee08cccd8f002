pub mod Mode
pub mod Steps
