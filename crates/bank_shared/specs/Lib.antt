pub mod Holds
pub mod Calls
pub mod Advancing
pub mod Outcomes
pub mod Asking
pub mod OpenedView
