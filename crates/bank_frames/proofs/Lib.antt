pub mod Lengths
mod HeadLines
pub mod Agreement
mod Windows
mod NextFrame
