pub mod SetupRead
pub mod RecordsRead
pub mod OneBank
pub mod Reports
