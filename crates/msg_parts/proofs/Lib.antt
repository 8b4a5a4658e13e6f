pub mod Named
pub mod Joined
pub mod AccountLaws
pub mod PartLaws
pub mod PartOffsets
mod Uids
pub mod Statuses
pub mod Lawful
pub mod Printed
pub mod ReadBack
pub mod Alone
pub mod PrintedDeeds
pub mod Branches
pub mod Transactions
