pub mod Steps
pub mod NumberLaws
pub mod BoundedLaws
pub mod TextLaws
pub mod PartLaws
