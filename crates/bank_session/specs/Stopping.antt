-- What an undone piece of work means for a run.
use Rattle.bank_desk.specs.declared.fault.DeskFault.{DeskFault}
use Rattle.bank_desk.specs.declared.fault.DeskFault.TheVariants.{NoMemory, AppendFailed}
use Rattle.bank_opening.specs.declared.stop.Stop.{Stop}
use Rattle.bank_opening.specs.declared.stop.Stop.TheVariants as stops

-- A run stops with it.
abbrev pub stop_of : DeskFault → Stop
stop_of NoMemory = stops.NoMemory
stop_of AppendFailed = stops.KeeperFailed
