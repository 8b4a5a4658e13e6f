pub mod StatementSteps
pub mod StatementLaws
pub mod SoundStatements
pub mod StatementDocuments
