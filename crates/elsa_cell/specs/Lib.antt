pub mod Entries
pub mod Extended
pub mod Ordered
pub mod Queries
