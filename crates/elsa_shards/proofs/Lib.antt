pub mod MeetLemmas
pub mod MomentLemmas
pub mod NumberLemmas
pub mod ShardLemmas
