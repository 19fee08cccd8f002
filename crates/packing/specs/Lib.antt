pub mod Packed
pub mod Regular
pub mod Packs
pub mod Cases
