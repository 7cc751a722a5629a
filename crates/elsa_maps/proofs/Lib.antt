pub mod Appended
pub mod Clones
pub mod Collecting
pub mod Copied
mod Extending
mod Contents
pub mod Pairs
pub mod Indices
