-- A client takes in what this bank answers to its file.
use Rattle.std.specs.Prelude.{◌≡◌, ℕ, List, Option, Some, Result, Err, ◌⊎◌}
use Rattle.std.specs.Io.KnownBytes.{prepend_known}
use Rattle.ofx_ports.specs.Faults.{Rose}
use Rattle.ofx_types.specs.FileForm.{SpellsReply}
use Rattle.ofx_types.specs.declared.number.Moment.{Moment}
use Rattle.ofx_types.specs.declared.number.UserId.{UserId}
use Rattle.ofx_types.specs.declared.reply.ReplyFile.{ReplyFile}
use Rattle.bank_model.specs.declared.event.State.{State}
use Rattle.bank_model.specs.declared.setup.Setup.{Setup}
use Rattle.bank_model.specs.SetupForm.{IsWithinLimits}
use Rattle.sync_laws.specs.Histories.{IsInOrder}
use Rattle.client_saved.specs.declared.state.ClientState.{ClientState}
use Rattle.client_saved.specs.declared.state.Outstanding.{Outstanding}
use Rattle.client_core.specs.Accepting.{with_replies}
use Rattle.client_core.specs.declared.fault.ClientFault.TheVariants as faults
use Rattle.client_laws.specs.Answers.{bank_reply}
use Rattle.client_run.specs.Views.{LinkView, StoreView, OutView}
use Rattle.client_run.specs.Exchange.{BeginsWith}
use Rattle.client_run.specs.Sending.{SendsOutstanding}
use Rattle.client_run.specs.declared.stop.CallStop.TheVariants as calls
use Rattle.client_run.specs.declared.stop.ClientStop.{ClientStop}
use Rattle.client_run.specs.declared.stop.ClientStop.TheVariants as stops

-- A read or a write of the link failed, or memory was refused.
abbrev pub IsBroken : LinkView → LinkView → Result (Unit {0}) ClientStop → Type 0
IsBroken link link' end =
    ((end ≡ Err (stops.Call calls.ReadFailed)) × Rose link.read_faults link'.read_faults)
    ⊎ (((end ≡ Err (stops.Call calls.WriteFailed)) × Rose link.write_faults link'.write_faults)
    ⊎ ((end ≡ Err (stops.Call calls.NoMemory)) ⊎ (end ≡ Err (stops.Refused faults.OutOfMemory))))

-- These bytes begin with a whole reply with the code 200 whose body spells this file.
pub record Answers (all : List ℕ) (reply : ReplyFile) : Type 0 where
  pub body : List ℕ
  pub begins : BeginsWith all 200 body
  pub spells : SpellsReply body reply

-- Where the bank answers the file that waits, the client is the one that the rule makes of that reply, unless a read or a write
-- fails or memory is refused.
abbrev pub AcceptsTheBanks : Type 0
AcceptsTheBanks = (setup : Setup) (S : State) (user : UserId) (at : Moment) (pass : List ℕ) (client : ClientState) (kept : Outstanding)
    (all ahead : List ℕ) (link : LinkView) (store : StoreView) (out : OutView) (client' : ClientState) (ahead' : List ℕ) (link' : LinkView)
    (store' : StoreView) (out' : OutView) (end : Result (Unit {0}) ClientStop)
    → IsWithinLimits setup → IsInOrder setup S → client.outstanding ≡ Some kept
    → prepend_known ahead link.left ≡ Some all → Answers all (bank_reply setup S user at kept.file)
    → SendsOutstanding pass client ahead link store out client' ahead' link' store' out' end
    → (client' ≡ (with_replies client kept.file (bank_reply setup S user at kept.file).replies).after) ⊎ IsBroken link link' end
