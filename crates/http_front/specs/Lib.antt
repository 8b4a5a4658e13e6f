pub mod Fields
pub mod Heads
pub mod Targets
pub mod HeadText
pub mod HeadLaws
