use Rattle.sync_laws.proofs.EnteredRows.{rows_said, rows_said_of}
use Rattle.sync_laws.proofs.stores.rows_are_those_of_the_entries.Goals as goal

pub returns-clause-object : goal.returns-clause-object
returns-clause-object c = rows_said

pub returns-clause-named : goal.returns-clause-named
returns-clause-named c = rows_said_of
