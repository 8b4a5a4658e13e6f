pub mod SameObject
pub mod RowLaws
pub mod StoreLaws
pub mod OutstandingLaws
pub mod StateLaws
pub mod Loops
