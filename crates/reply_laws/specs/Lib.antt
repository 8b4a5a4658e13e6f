pub mod Reportable
pub mod Replies
