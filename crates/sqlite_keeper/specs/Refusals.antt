-- Which refusal an error of the database is.
use Rattle.sqlite.specs.declared.error.Error.{Error}
use Rattle.sqlite.specs.declared.error.Error.TheVariants.{SqliteFailure}
use Rattle.sqlite.specs.declared.error.ErrorCode.TheVariants as code
use Rattle.sqlite_keeper.specs.declared.refusal.Refusal.{Refusal}
use Rattle.sqlite_keeper.specs.declared.refusal.Refusal.TheVariants.{Failed, OutOfMemory}

-- Want of memory alone is reported as such. It undoes what was begun; any other error may leave a record stored.
abbrev pub refusal_of : Error → Refusal
refusal_of (SqliteFailure code.OutOfMemory) = OutOfMemory
refusal_of _ = Failed
