pub mod HeldLemmas
pub mod HomeLemmas
pub mod SettledSides
pub mod Sides
pub mod Turns
