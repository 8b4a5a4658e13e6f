mod Accepted
pub mod Answered
mod AsksMade
mod Objects
pub mod SpelledRows
mod StoresHold
