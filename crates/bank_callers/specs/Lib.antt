pub mod Belonging
pub mod Polled
pub mod Callers
pub mod Boards
