pub mod Requests
pub mod Incoming
pub mod Replies
pub mod Responses
