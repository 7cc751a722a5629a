pub mod IndexRun
pub mod MapRun
pub mod Runs
pub mod SetRun
pub mod VecRun
