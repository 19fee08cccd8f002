pub mod Words
pub mod Sets
pub mod Reach
pub mod Members
