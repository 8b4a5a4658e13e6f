pub mod FieldLemmas
pub mod TargetLemmas
pub mod HeadLemmas
pub mod TextLemmas
pub mod StayLemmas
pub mod WrittenLemmas
