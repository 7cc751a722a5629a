pub mod AheadLemmas
mod DigitLemmas
pub mod EngineLemmas
pub mod ReplyLemmas
pub mod RequestLemmas
pub mod Writers
pub mod Faults
pub mod Passes
pub mod Indices
pub mod Pushed
pub mod WrongWords
