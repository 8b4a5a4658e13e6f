-- What is seen of a keeper over a file.
use Rattle.std.specs.Prelude.{ℕ, Bool, Option}
use Rattle.ofx_ports.specs.declared.fault.PutFault.{PutFault}
use Rattle.ofx_ports.specs.declared.fault.FetchFault.{FetchFault}
use Rattle.sqlite_keeper.specs.declared.refusal.Refusal.{Refusal}
use Rattle.sqlite_keeper.specs.declared.refusal.Refusal.TheVariants.{Failed, OutOfMemory}

pub record SqliteKeeperView : Type 0 where
  -- the number of records, without one that is to be settled
  pub size : ℕ
  -- whether an append failed and is not settled
  pub unsettled : Bool
  -- how many of its calls failed
  pub faults : ℕ
  -- why the file couldn't be opened, where it couldn't
  pub refusal : Option Refusal

-- how an append is refused for this cause
abbrev pub put_fault : Refusal → PutFault
put_fault Failed = PutFault.Failed
put_fault OutOfMemory = PutFault.OutOfMemory

-- how a fetch is refused for this cause
abbrev pub fetch_fault : Refusal → FetchFault
fetch_fault Failed = FetchFault.Failed
fetch_fault OutOfMemory = FetchFault.OutOfMemory
