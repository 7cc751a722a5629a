pub mod MapLemmas
pub mod OnError
