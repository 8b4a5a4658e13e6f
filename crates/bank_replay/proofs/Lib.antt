pub mod Alike
pub mod Exactness
pub mod OneOpening
pub mod RunLemmas
pub mod Taking
mod Bounds
