pub mod Bounds
pub mod Coding
pub mod Reading
pub mod SavedText
