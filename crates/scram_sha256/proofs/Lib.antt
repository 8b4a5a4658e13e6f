pub mod Xor
pub mod Commas
pub mod Rounds
