pub mod FieldCoding
pub mod FieldReading
pub mod PartReading
pub mod Answers
pub mod Fields
