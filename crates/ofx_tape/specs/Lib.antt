pub mod Slices
pub mod NodeView
pub mod TapeOutcome
pub mod NodeCounts
pub mod TagScan
pub mod OpenAggregates
pub mod NamesOfLength
pub mod TagReading
