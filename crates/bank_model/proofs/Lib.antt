pub mod Lists
pub mod Visible
pub mod Logs
pub mod Histories
pub mod Rejections
pub mod TakenStores
pub mod SetupWords
pub mod AccountNames
pub mod SetupNumbers
pub mod SetupLines
pub mod SetupParts
pub mod SetupGrowth
pub mod SetupSpelled
pub mod SetupLaws
mod DirectoryLaws
pub mod SetupSignon
mod NamingLemmas
