pub mod Hmac
pub mod Keyed
pub mod Salted
pub mod Exchange
pub mod Views
