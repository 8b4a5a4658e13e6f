pub mod Names
pub mod RecordsView
pub mod UidsView
