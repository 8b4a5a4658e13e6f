pub mod Fields
pub mod Messages
pub mod Reading
pub mod Laws
pub mod Views
pub mod Requests
pub mod RequestReading
pub mod Writes
