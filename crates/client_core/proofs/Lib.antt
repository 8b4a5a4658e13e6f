pub mod Names
pub mod Lists
pub mod Opened
pub mod Rows
pub mod SoundStores
pub mod Files
pub mod Keeping
