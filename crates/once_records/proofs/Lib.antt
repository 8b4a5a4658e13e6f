pub mod OnceLemmas
mod OrderLemmas
mod NameLemmas
mod UsedLemmas
