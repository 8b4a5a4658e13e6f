pub mod Answers
pub mod ClientStores
