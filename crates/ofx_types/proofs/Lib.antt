pub mod Bytes
pub mod Days
pub mod Numbers
pub mod Trimming
