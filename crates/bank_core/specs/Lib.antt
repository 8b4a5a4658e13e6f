pub mod BookView
pub mod BookSides
pub mod Preparing
pub mod Opened
