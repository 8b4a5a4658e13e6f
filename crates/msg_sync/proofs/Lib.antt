pub mod After
pub mod Deeds
pub mod Forms
mod Transactions
mod Families
mod Syncs
mod SyncReplies
mod SyncDocuments
pub mod Skipped
mod SyncsBack
mod SyncRepliesBack
