pub mod Coding
pub mod Records
pub mod AskReading
pub mod Reading
pub mod AskList
