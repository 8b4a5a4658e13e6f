pub mod ClientForm
pub mod Objects
pub mod Wishes
pub mod Making
pub mod Answering
pub mod Accepting
pub mod ReportLines
pub mod Taking
