pub mod Printing
pub mod Belonging
pub mod Numbering
pub mod Tokens
pub mod Following
