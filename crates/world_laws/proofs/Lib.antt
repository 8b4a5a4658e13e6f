mod ActsBeside
mod BesideBank
mod ClientsBeside
mod JournalRuns
mod LogRuns
mod ProgramActs
mod SoundServers
