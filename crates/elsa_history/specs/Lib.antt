pub mod MapStep
pub mod Receipts
pub mod VecStep
