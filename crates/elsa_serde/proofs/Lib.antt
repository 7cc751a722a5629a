pub mod Naming
pub mod Turns
pub mod Reading
pub mod Back
pub mod Content
pub mod Known
