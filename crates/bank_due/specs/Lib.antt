pub mod DueRuns
