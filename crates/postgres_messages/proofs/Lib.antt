mod FieldLaws
mod ListLaws
mod BodyLaws
mod MessageLaws
mod Loops
mod Groups
mod RequestLaws
