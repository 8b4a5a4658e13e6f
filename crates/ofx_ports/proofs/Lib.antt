pub mod KnownLaws
pub mod FaultLaws
pub mod Writing
