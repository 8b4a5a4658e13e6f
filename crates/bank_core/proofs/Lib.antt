pub mod AskAnswers
pub mod SyncAnswers
pub mod DueAnswers
pub mod Outcomes
pub mod Printing
pub mod OpenedLemmas
pub mod BookSidesLemmas
