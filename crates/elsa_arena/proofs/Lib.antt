pub mod Beginnings
pub mod Bracketed
pub mod Callable
pub mod EachLemmas
pub mod Narrowing
pub mod IndexLemmas
pub mod ReadyLemmas
