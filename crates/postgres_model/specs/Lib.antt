pub mod Engine
pub mod World
pub mod Laws
pub mod MemView
