pub mod EntryLemmas
pub mod FirstsLemmas
pub mod OrderLemmas
pub mod BlockLemmas
pub mod WalkLemmas
pub mod RuleLemmas
pub mod ScanLemmas
pub mod SeenLemmas
