pub mod Codes
pub mod Dictionary
pub mod Kept
pub mod Seed
pub mod Shared
pub mod SharedKept
