-- What the adapters wrap.
pub mod Adapters
