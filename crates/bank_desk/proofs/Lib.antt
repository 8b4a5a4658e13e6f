pub mod DeskLemmas
mod FileAnswers
pub mod DueEvents
