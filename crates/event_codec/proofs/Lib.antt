pub mod Loops
pub mod PeriodLaws
pub mod DeedLaws
pub mod SyncLaws
pub mod AskOrder
pub mod AskLaws
pub mod RecordLaws
pub mod EventLaws
