pub mod MailsView
