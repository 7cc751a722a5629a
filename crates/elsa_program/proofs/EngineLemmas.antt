pub mod KnownBytes
pub mod LineEnds
pub mod LinesOfChunks
pub mod WholeRuns
