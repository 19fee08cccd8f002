pub mod Lists
pub mod Order
pub mod Greedy
pub mod Condition
pub mod Fixed
pub mod Calls
pub mod Steps
