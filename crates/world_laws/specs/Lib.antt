pub mod ServedBank
pub mod BankLaws
pub mod ClientActs
pub mod ProgramRuns
pub mod Beside
pub mod BesideLaws
