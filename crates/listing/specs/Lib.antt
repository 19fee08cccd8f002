pub mod Listing
pub mod Files
pub mod PairRows
pub mod Steps
pub mod Cases
