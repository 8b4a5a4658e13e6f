mod Names
pub mod InSets
mod RequestLaws
mod ReplyLaws
mod FormOffsets
mod TagOffsets
mod FileFaults
mod Files
mod Within
pub mod SoundDeeds
mod Soundness
mod PrintableFiles
mod Outcomes
pub mod Texts
mod Sets
mod RequestsBack
mod RepliesBack
