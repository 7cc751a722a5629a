pub mod Shards
pub mod Numbers
