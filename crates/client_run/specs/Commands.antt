-- What a run does for each command, from the client that it found.
use Rattle.std.specs.Prelude.{◌≡◌, ℕ, List, [], ◌∷◌, Option, None, Some, Result, Ok, Err}
use Rattle.ofx_ports.specs.Known.{Grows}
use Rattle.ofx_ports.specs.declared.fault.PutFault.{PutFault}
use Rattle.ofx_types.specs.declared.account.AcctName.{AcctName}
use Rattle.ofx_types.specs.declared.number.Moment.{Moment}
use Rattle.ofx_types.specs.declared.request.Ask.{Ask}
use Rattle.ofx_types.specs.declared.reply.ReplyFile.{ReplyFile}
use Rattle.client_saved.specs.declared.state.ClientState.{ClientState}
use Rattle.client_saved.specs.declared.state.Outstanding.{Outstanding}
use Rattle.client_core.specs.Making.{made, poll_of}
use Rattle.client_core.specs.ReportLines.{FollowsRule}
use Rattle.client_core.specs.declared.fault.ClientFault.{ClientFault}
use Rattle.client_core.specs.declared.wish.Wish.{Wish}
use Rattle.client_core.specs.declared.wish.Wish.TheVariants as wishes
use Rattle.client_run.specs.Views.{LinkView, StoreView, OutView, PortsView}
use Rattle.client_run.specs.Exchange.{request_bytes, Exchanges}
use Rattle.client_run.specs.Saves.{Saves}
use Rattle.client_run.specs.Lines.{kept_text, news, printed, Prints}
use Rattle.client_run.specs.Sending.{SendsOutstanding, print_end}
use Rattle.client_run.specs.declared.stop.CallStop.{CallStop}
use Rattle.client_run.specs.declared.stop.ClientStop.{ClientStop}
use Rattle.client_run.specs.declared.stop.ClientStop.TheVariants as stops

-- A file is outstanding, or none is.
abbrev pub Resumes : List ℕ → Option Outstanding → ClientState → LinkView → StoreView → OutView → ClientState → List ℕ → LinkView → StoreView → OutView → Result (Unit {0}) ClientStop → Type 0
Resumes pass None client link store out client' ahead' link' store' out' end =
    (end ≡ Ok tt) × (client' ≡ client) × (ahead' ≡ []) × (link' ≡ link) × (store' ≡ store) × (out' ≡ out)
Resumes pass (Some kept) client link store out client' ahead' link' store' out' end =
    SendsOutstanding pass client [] link store out client' ahead' link' store' out' end

-- ---- commands that make a file

-- what comes of keeping a client
abbrev pub keep_end : Result (Unit {0}) PutFault → Result (Unit {0}) ClientStop
keep_end (Ok done) = Ok done
keep_end (Err fault) = Err (stops.Keep fault)

-- The client that made a file is saved. Where no file is made nothing is.
abbrev pub KeepsMade : Result ClientState ClientFault → ClientState → StoreView → ClientState → StoreView → Result (Unit {0}) ClientStop → Type 0
KeepsMade (Err fault) client store client' store' end = (end ≡ Err (stops.Refused fault)) × (client' ≡ client) × (store' ≡ store)
KeepsMade (Ok next) client store client' store' end =
    (kept : Result (Unit {0}) PutFault) × (client' ≡ next) × Saves next store store' kept × (end ≡ keep_end kept)

-- The file of the wish is made at the moment that the clock shows.
pub record Makes (wish : Wish) (client : ClientState) (store : StoreView) (shown : Option (List Moment)) (client' : ClientState) (store' : StoreView) (shown' : Option (List Moment)) (end : Result (Unit {0}) ClientStop) : Type 0 where
  pub at : Moment
  pub reads : Grows shown shown' (at ∷ [])
  pub judged : Result ClientState ClientFault
  pub gives : FollowsRule (made client wish at) judged
  pub keeps : KeepsMade judged client store client' store' end

-- Only a file that is saved is sent. The clock isn't read again.
abbrev pub SendsIf : List ℕ → ClientState → List ℕ → Result (Unit {0}) ClientStop → PortsView → PortsView → Result (Unit {0}) ClientStop → Type 0
SendsIf pass client ahead (Err stop) before after end = (end ≡ Err stop) × (after ≡ before)
SendsIf pass client ahead (Ok done) before after end =
    (client' : ClientState) × (ahead' : List ℕ) × (after.shown ≡ before.shown)
    × SendsOutstanding pass client ahead before.link before.store before.out client' ahead' after.link after.store after.out end

-- The file is made and saved, and then it is sent and its reply is taken.
pub record MakesAndSends (pass : List ℕ) (wish : Wish) (client : ClientState) (ahead : List ℕ) (before after : PortsView) (end : Result (Unit {0}) ClientStop) : Type 0 where
  pub made_end : Result (Unit {0}) ClientStop
  pub next : ClientState
  pub between : PortsView
  pub makes : Makes wish client before.store before.shown next between.store between.shown made_end
  pub link_is : between.link ≡ before.link
  pub out_is : between.out ≡ before.out
  pub sends : SendsIf pass next ahead made_end between after end

-- No new file is made where the earlier one wasn't taken.
abbrev pub MakesIf : List ℕ → Wish → ClientState → List ℕ → Result (Unit {0}) ClientStop → PortsView → PortsView → Result (Unit {0}) ClientStop → Type 0
MakesIf pass wish client ahead (Err stop) before after end = (end ≡ Err stop) × (after ≡ before)
MakesIf pass wish client ahead (Ok done) before after end = MakesAndSends pass wish client ahead before after end

-- A file that is outstanding from an earlier run is sent again first, and then comes the new one.
pub record Acts (pass : List ℕ) (wish : Wish) (client : ClientState) (before after : PortsView) (end : Result (Unit {0}) ClientStop) : Type 0 where
  pub first : Result (Unit {0}) ClientStop
  pub later : ClientState
  pub ahead : List ℕ
  pub between : PortsView
  pub resumes : Resumes pass client.outstanding client before.link before.store before.out later ahead between.link between.store between.out first
  pub shown_is : between.shown ≡ before.shown
  pub makes : MakesIf pass wish later ahead first between after end

-- ---- `check`

abbrev pub ReportsNews : Result (List (List ℕ)) ClientFault → OutView → OutView → Result (Unit {0}) ClientStop → Type 0
ReportsNews (Err fault) out out' end = (end ≡ Err (stops.Refused fault)) × (out' ≡ out)
ReportsNews (Ok lines) out out' end = (reported : Result (Unit {0}) PutFault) × Prints (printed lines) out out' reported × (end ≡ print_end reported)

-- A reply to a poll is reported by the rule of `news`, unless memory is refused.
abbrev pub JudgesNews : List Ask → Result ReplyFile CallStop → OutView → OutView → Result (Unit {0}) ClientStop → Type 0
JudgesNews asks (Err stop) out out' end = (end ≡ Err (stops.Call stop)) × (out' ≡ out)
JudgesNews asks (Ok reply) out out' end =
    (judged : Result (List (List ℕ)) ClientFault) × FollowsRule (news asks reply) judged × ReportsNews judged out out' end

-- The poll file of the account is sent, as made at the moment that the clock shows, and the newest tokens are printed. An
-- outstanding file is left alone.
pub record Checks (pass : List ℕ) (client : ClientState) (account : AcctName) (link : LinkView) (shown : Option (List Moment)) (out : OutView) (link' : LinkView) (shown' : Option (List Moment)) (out' : OutView) (end : Result (Unit {0}) ClientStop) : Type 0 where
  pub at : Moment
  pub reads : Grows shown shown' (at ∷ [])
  pub got : Result ReplyFile CallStop
  pub ahead' : List ℕ
  pub exchanges : Exchanges (request_bytes pass (poll_of client account) at) [] link ahead' link' got
  pub judges : JudgesNews (poll_of client account).asks got out out' end

-- ---- `show`

-- What the client keeps is printed.
pub record Shows (client : ClientState) (out out' : OutView) (end : Result (Unit {0}) ClientStop) : Type 0 where
  pub reported : Result (Unit {0}) PutFault
  pub prints : Prints (kept_text client) out out' reported
  pub end_is : end ≡ print_end reported

-- ---- all commands

-- `show` uses neither the link nor the clock, and `check` saves nothing. Every other command makes a file.
abbrev pub Works : List ℕ → Wish → ClientState → PortsView → PortsView → Result (Unit {0}) ClientStop → Type 0
Works pass wishes.Show client before after end =
    Shows client before.out after.out end × (after.link ≡ before.link) × (after.store ≡ before.store) × (after.shown ≡ before.shown)
Works pass (wishes.Check account) client before after end =
    Checks pass client account before.link before.shown before.out after.link after.shown after.out end × (after.store ≡ before.store)
Works pass wish client before after end = Acts pass wish client before after end
