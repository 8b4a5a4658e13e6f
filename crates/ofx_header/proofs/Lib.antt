pub mod Lines
pub mod Meanings
pub mod Headers
pub mod Outcomes
pub mod Written
