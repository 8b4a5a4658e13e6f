pub mod Connected
pub mod Turns
pub mod AllTurns
pub mod Opening
