pub mod Giving
pub mod DeedAnswers
pub mod ModelAnswers
pub mod MailAnswers
pub mod PendingAnswers
pub mod PendingSteps
pub mod AlongAnswers
pub mod UnaskedAnswers
