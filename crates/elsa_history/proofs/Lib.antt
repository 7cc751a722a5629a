pub mod Counts
pub mod Owners
pub mod Parts
pub mod Receipts
