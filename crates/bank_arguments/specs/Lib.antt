pub mod Arguments
pub mod Bounds
pub mod Plans
pub mod Reading
