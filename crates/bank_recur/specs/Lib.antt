pub mod ModelsView
pub mod Spawning
pub mod Growth
pub mod InOrder
pub mod Upcoming
pub mod Ahead
