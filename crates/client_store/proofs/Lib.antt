pub mod Ordered
pub mod Located
