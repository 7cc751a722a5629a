pub mod ManyNames
pub mod NameLemmas
