pub mod SignonLaws
pub mod SignonParts
pub mod SignonsAsDocuments
pub mod MailParts
pub mod MailLaws
pub mod SoundMails
pub mod MailsAsDocuments
