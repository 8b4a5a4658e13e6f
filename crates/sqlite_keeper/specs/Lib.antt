pub mod SqliteKeeperView
pub mod Refusals
