pub mod Signons
pub mod SignonReplies
mod SignonsBack
mod SignonRepliesBack
pub mod MailParts
mod Mails
mod MailReplies
mod MailDocuments
mod MailsBack
mod MailRepliesBack
