mod SetupSource
pub mod OneSetup
