pub mod Tokens
pub mod Views
pub mod Rule
pub mod Steps
pub mod Holders
pub mod Following
pub mod Publishing
