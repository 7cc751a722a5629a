mod MapRuns
pub mod IndexRuns
pub mod Runs
pub mod SetRuns
pub mod VecRuns
