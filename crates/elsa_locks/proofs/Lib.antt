pub mod Clones
pub mod Insertions
pub mod Kept
pub mod Shared
pub mod Walks
