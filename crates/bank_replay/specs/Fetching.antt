-- Why a bank doesn't open where a record couldn't be fetched.
use Rattle.ofx_ports.specs.declared.fault.FetchFault.{FetchFault}
use Rattle.ofx_ports.specs.declared.fault.FetchFault.TheVariants as fetches
use Rattle.bank_replay.specs.declared.fault.OpenFault.{OpenFault}
use Rattle.bank_replay.specs.declared.fault.OpenFault.TheVariants as faults

abbrev pub failed_fetch : FetchFault → OpenFault
failed_fetch fetches.Failed = faults.Read
failed_fetch fetches.OutOfMemory = faults.OutOfMemory
