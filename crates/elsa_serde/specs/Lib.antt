pub mod Written
pub mod Read
pub mod Loaded
pub mod Back
