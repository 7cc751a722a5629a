-- The machine and the histories of the running code.
pub mod Histories
pub mod Holding
pub mod Refused
