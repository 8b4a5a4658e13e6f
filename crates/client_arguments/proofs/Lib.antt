pub mod Bounds
pub mod Days
pub mod Modified
pub mod Ordered
pub mod Rows
pub mod Unread
