pub mod Exchanges
pub mod ReplyText
pub mod Watched
pub mod Answering
pub mod Connection
pub mod Steps
pub mod NewestTokens
