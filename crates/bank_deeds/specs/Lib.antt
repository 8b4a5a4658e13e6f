pub mod Unrefused
pub mod Made
pub mod Entries
