pub mod Statements
pub mod SigningOn
pub mod SignOnView
pub mod Laws
