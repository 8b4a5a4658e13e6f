mod Commands
mod Moments
mod Plans
pub mod SameCommand
