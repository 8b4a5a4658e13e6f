pub mod AmongLemmas
pub mod MadeLemmas
pub mod ObjectHistoryLemmas
pub mod HistoryHeldLemmas
pub mod LayingLemmas
