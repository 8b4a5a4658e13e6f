pub mod DeedSteps
pub mod DeedLaws
pub mod SoundDeeds
pub mod DeedsReadBack
pub mod PrintableDeeds
