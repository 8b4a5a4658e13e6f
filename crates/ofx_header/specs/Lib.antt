pub mod HeaderReading
pub mod HeaderLaws
