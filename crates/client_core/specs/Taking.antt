-- What a reply was taken into, before the client has it.
use Rattle.std.specs.Prelude.{◌≡◌, Result, Ok, Err}
use Rattle.client_saved.specs.declared.state.ClientState.{ClientState}
use Rattle.client_core.specs.Accepting.{Accepted, with_reply}
use Rattle.client_core.specs.ReportLines.{IsRefusal}
use Rattle.client_core.specs.declared.accepting.Taken.{Taken}
use Rattle.client_core.specs.declared.fault.ClientFault.{ClientFault}

-- what the client knows once it has it, and the lines
abbrev pub reported_of : ClientState → Taken → Accepted
reported_of client taken = record { after = with_reply client taken.done taken.stores; lines = taken.lines }

-- A call answers what the rule gives.
abbrev pub GivesTaken : ClientState → Result Accepted ClientFault → Result Taken ClientFault → Type 0
GivesTaken client given (Ok taken) = given ≡ Ok (reported_of client taken)
GivesTaken client given (Err fault) = IsRefusal given fault
