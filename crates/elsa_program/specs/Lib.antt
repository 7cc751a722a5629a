pub mod Ahead
pub mod Devices
pub mod Engine
pub mod Feeding
pub mod Jobs
pub mod Lines
pub mod Replies
pub mod Workers
