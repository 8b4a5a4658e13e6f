pub mod Fetching
pub mod Laws
pub mod Opening
pub mod Replay
pub mod Runs
