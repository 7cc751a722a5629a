pub mod Cached
