pub mod Shared
pub mod Walks
