-- Laws for the proofs of this crate and of the crates above it.
pub mod Product
pub mod Parts
pub mod Placing
pub mod JoinedLaws
pub mod Heads
pub mod Filler
pub mod Counting
pub mod RowLaws
pub mod Order
pub mod Rooms
pub mod Made
pub mod MadeBlocks
pub mod GoodBlocks
