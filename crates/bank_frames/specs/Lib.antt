pub mod Frames
pub mod FirstLine
pub mod FrameHead
pub mod Reads
pub mod Window
pub mod NextFrame
pub mod Lines
