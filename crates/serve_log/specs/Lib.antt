-- What the log's adapters wrap.
pub mod Within
