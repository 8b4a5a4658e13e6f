-- The outstanding file of a client is sent, and what its reply makes of the client is saved and reported.
use Rattle.std.specs.Prelude.{◌≡◌, ℕ, ◌==◌, Bool, true, false, List, Option, None, Some, Result, Ok, Err}
use Rattle.ofx_ports.specs.declared.fault.PutFault.{PutFault}
use Rattle.ofx_types.specs.declared.reply.ReplyFile.{ReplyFile}
use Rattle.client_saved.specs.declared.state.ClientState.{ClientState}
use Rattle.client_saved.specs.declared.state.Outstanding.{Outstanding}
use Rattle.client_core.specs.ClientForm.{discarded}
use Rattle.client_core.specs.Accepting.{Accepted, accepted}
use Rattle.client_core.specs.ReportLines.{FollowsRule}
use Rattle.client_core.specs.declared.fault.ClientFault.{ClientFault}
use Rattle.client_run.specs.Views.{LinkView, StoreView, OutView}
use Rattle.client_run.specs.Exchange.{request_bytes, Exchanges}
use Rattle.client_run.specs.Saves.{Saves}
use Rattle.client_run.specs.Lines.{printed, Prints}
use Rattle.client_run.specs.declared.stop.CallStop.{CallStop}
use Rattle.client_run.specs.declared.stop.CallStop.TheVariants as calls
use Rattle.client_run.specs.declared.stop.ClientStop.{ClientStop}
use Rattle.client_run.specs.declared.stop.ClientStop.TheVariants as stops

-- Printing is the last thing of all.
abbrev pub print_end : Result (Unit {0}) PutFault → Result (Unit {0}) ClientStop
print_end (Ok done) = Ok done
print_end (Err fault) = Err (stops.Print fault)

-- Neither the client nor what is kept nor what is printed changes, and that is why.
pub record Leaves (client : ClientState) (stop : ClientStop) (store : StoreView) (out : OutView) (client' : ClientState) (store' : StoreView) (out' : OutView) (end : Result (Unit {0}) ClientStop) : Type 0 where
  pub end_is : end ≡ Err stop
  pub client_is : client' ≡ client
  pub store_is : store' ≡ store
  pub out_is : out' ≡ out

-- Nothing is printed before all is saved.
abbrev pub PrintsIf : List ℕ → Result (Unit {0}) PutFault → OutView → OutView → Result (Unit {0}) ClientStop → Type 0
PrintsIf bytes (Err fault) out out' end = (end ≡ Err (stops.Keep fault)) × (out' ≡ out)
PrintsIf bytes (Ok done) out out' end = (reported : Result (Unit {0}) PutFault) × Prints bytes out out' reported × (end ≡ print_end reported)

-- The client that accepted a reply is saved, and then the lines are printed that tell of it.
pub record Accepts (taken : Accepted) (store : StoreView) (out : OutView) (client' : ClientState) (store' : StoreView) (out' : OutView) (end : Result (Unit {0}) ClientStop) : Type 0 where
  pub client_is : client' ≡ taken.after
  pub kept : Result (Unit {0}) PutFault
  pub saves : Saves taken.after store store' kept
  pub prints : PrintsIf (printed taken.lines) kept out out' end

abbrev pub GoesBy : ClientState → Result Accepted ClientFault → StoreView → OutView → ClientState → StoreView → OutView → Result (Unit {0}) ClientStop → Type 0
GoesBy client (Err fault) store out client' store' out' end = Leaves client (stops.Refused fault) store out client' store' out' end
GoesBy client (Ok taken) store out client' store' out' end = Accepts taken store out client' store' out' end

-- A reply is taken in by the rule of `accepted`, unless memory is refused.
abbrev pub Judges : ClientState → ReplyFile → StoreView → OutView → ClientState → StoreView → OutView → Result (Unit {0}) ClientStop → Type 0
Judges client reply store out client' store' out' end =
    (judged : Result Accepted ClientFault) × FollowsRule (accepted client reply) judged × GoesBy client judged store out client' store' out' end

-- what a run ends with that gave a file up
abbrev pub given_up : CallStop → Result (Unit {0}) PutFault → ClientStop
given_up stop (Ok done) = stops.Call stop
given_up stop (Err fault) = stops.Keep fault

-- The file is given up, and that is saved.
pub record GivesUpSo (client : ClientState) (call : CallStop) (store : StoreView) (client' : ClientState) (store' : StoreView) (stop : ClientStop) : Type 0 where
  pub client_is : client' ≡ discarded client
  pub kept : Result (Unit {0}) PutFault
  pub saves : Saves (discarded client) store store' kept
  pub stop_is : stop ≡ given_up call kept

pub record GivesUp (client : ClientState) (call : CallStop) (store : StoreView) (out : OutView) (client' : ClientState) (store' : StoreView) (out' : OutView) (end : Result (Unit {0}) ClientStop) : Type 0 where
  pub stop : ClientStop
  pub gives_up : GivesUpSo client call store client' store' stop
  pub end_is : end ≡ Err stop
  pub out_is : out' ≡ out

-- The bank says that it can't read a file.
abbrev pub is_bad_request : CallStop → Bool
is_bad_request (calls.Http code) = code == 400
is_bad_request calls.ReadFailed = false
is_bad_request calls.WriteFailed = false
is_bad_request calls.NoMemory = false
is_bad_request calls.BadHead = false
is_bad_request (calls.Cut count) = false
is_bad_request (calls.BadReply at) = false

-- A file that the bank can't read is given up. After any other refusal it stays outstanding.
abbrev pub Drops : Bool → ClientState → CallStop → StoreView → OutView → ClientState → StoreView → OutView → Result (Unit {0}) ClientStop → Type 0
Drops true client stop store out client' store' out' end = GivesUp client stop store out client' store' out' end
Drops false client stop store out client' store' out' end = Leaves client (stops.Call stop) store out client' store' out' end

abbrev pub Follows : ClientState → Result ReplyFile CallStop → StoreView → OutView → ClientState → StoreView → OutView → Result (Unit {0}) ClientStop → Type 0
Follows client (Ok reply) store out client' store' out' end = Judges client reply store out client' store' out' end
Follows client (Err stop) store out client' store' out' end = Drops (is_bad_request stop) client stop store out client' store' out' end

-- The outstanding file is sent as it was made, with the password of the arguments, and its reply is read.
abbrev pub Calls : List ℕ → Option Outstanding → List ℕ → LinkView → List ℕ → LinkView → Result ReplyFile CallStop → Type 0
Calls pass None ahead link ahead' link' got = ⊥
Calls pass (Some kept) ahead link ahead' link' got = Exchanges (request_bytes pass kept.file kept.at) ahead link ahead' link' got

pub record SendsOutstanding (pass : List ℕ) (client : ClientState) (ahead : List ℕ) (link : LinkView) (store : StoreView) (out : OutView) (client' : ClientState) (ahead' : List ℕ) (link' : LinkView) (store' : StoreView) (out' : OutView) (end : Result (Unit {0}) ClientStop) : Type 0 where
  pub got : Result ReplyFile CallStop
  pub calls : Calls pass client.outstanding ahead link ahead' link' got
  pub follows : Follows client got store out client' store' out' end
