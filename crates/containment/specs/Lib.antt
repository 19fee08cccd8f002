pub mod Contains
pub mod Steps
