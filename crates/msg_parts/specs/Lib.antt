pub mod PartSteps
pub mod StatusLaws
pub mod SoundParts
pub mod PartDocuments
pub mod MailDocuments
pub mod DeedDocuments
