pub mod HistoryView
pub mod EntryTrace
pub mod Made
pub mod ObjectHistory
pub mod HistoryHeld
