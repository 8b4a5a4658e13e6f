-- What the guards of a run wrap.
pub mod Within
