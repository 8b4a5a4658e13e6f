pub mod ObjectFamilies
pub mod Histories
pub mod SyncRound
pub mod Folding
