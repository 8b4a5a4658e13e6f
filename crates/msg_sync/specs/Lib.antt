pub mod Listing
pub mod SyncSteps
pub mod PrintableSyncs
pub mod SyncLaws
pub mod SoundSyncs
pub mod SyncsAsDocuments
