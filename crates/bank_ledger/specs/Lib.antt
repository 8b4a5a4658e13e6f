pub mod Balanced
pub mod LedgerView
pub mod Changes
pub mod Postings
pub mod DraftView
