pub mod LogLemmas
pub mod KeptLemmas
pub mod EngineLemmas
pub mod CheckedOutAccounts
pub mod Truth
pub mod Reopening
