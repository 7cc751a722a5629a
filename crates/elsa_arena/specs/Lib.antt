pub mod Extended
pub mod Faults
pub mod Kept
pub mod Observed
pub mod Parts
pub mod Ready
pub mod Search
