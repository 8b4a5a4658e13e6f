-- A poll: its file may be printed, and what comes of it is told.
use Rattle.std.proofs.Common.{◌≡◌, ℕ, ◌≤◌, List, [], ◌∷◌, ◌++◌, length, take, Option, None, Some, Result, Ok, Err, refl, sym, subst, arith, append-nil}
use Rattle.std.specs.Io.KnownBytes.{Keeps, Appends, prepend_known}
use Rattle.ofx_ports.specs.Known.{Grows}
use Rattle.ofx_ports.specs.Writes.{AppendsPart}
use Rattle.ofx_ports.specs.declared.fault.PutFault.{PutFault}
use Rattle.ofx_types.specs.Calendar.{IsMoment}
use Rattle.ofx_types.specs.declared.account.AcctName.{AcctName}
use Rattle.ofx_types.specs.declared.number.Moment.{Moment}
use Rattle.ofx_types.specs.declared.reply.ReplyFile.{ReplyFile}
use Rattle.ofx_types.specs.declared.request.Ask.{Ask}
use Rattle.ofx_types.specs.declared.request.RequestFile.{RequestFile}
use Rattle.ofx_file.specs.Printable.{IsPrintableFile}
use Rattle.client_saved.specs.declared.state.ClientState.{ClientState}
use Rattle.client_core.specs.Making.{poll_of}
use Rattle.client_core.specs.ReportLines.{FollowsRule}
use Rattle.client_core.specs.declared.fault.ClientFault.{ClientFault}
use Rattle.client_run.specs.Views.{LinkView, OutView}
use Rattle.client_run.specs.Commands.{Checks, JudgesNews}
use Rattle.client_run.specs.Exchange.{request_bytes, Exchanges}
use Rattle.client_run.specs.Lines.{news, printed, Prints}
use Rattle.client_run.specs.Sending.{print_end}
use Rattle.client_run.specs.declared.stop.CallStop.{CallStop}
use Rattle.client_run.specs.declared.stop.CallStop.TheVariants as calls
use Rattle.client_run.specs.declared.stop.ClientStop.{ClientStop}
use Rattle.client_run.specs.declared.stop.ClientStop.TheVariants as stops

poll_itself : (client : ClientState) (account : AcctName) (at : Moment) → IsMoment at.0 → IsPrintableFile (poll_of client account) at
unfolding poll_of
poll_itself client account at is = record { moment = is; asks = (tt, (tt, (tt, tt))) }

-- A poll file may be printed at any moment.
pub poll_printable : (client : ClientState) (account : AcctName) (file : RequestFile) (at : Moment) → file ≡ poll_of client account → IsMoment at.0 → IsPrintableFile file at
poll_printable client account file at same is = subst (λ (f : RequestFile). IsPrintableFile f at) (sym same) (poll_itself client account at is)

none_sent : (sent : Option (List ℕ)) → Appends sent sent []
none_sent None = tt
none_sent (Some bytes) = sym (append-nil bytes)

kept : (left : Option (List ℕ)) → Keeps (prepend_known [] left) (prepend_known [] left)
kept None = tt
kept (Some bytes) = refl

-- Where memory is refused for the file nothing is sent.
pub unsent : (pass : List ℕ) (client : ClientState) (account : AcctName) (at : Moment) (link : LinkView) (shown shown' : Option (List Moment)) (out : OutView) → Grows shown shown' (at ∷ []) → Checks pass client account link shown out link shown' out (Err (stops.Call calls.NoMemory))
unsent pass client account at link shown shown' out reads = record {
  at = at;
  reads = reads;
  got = Err calls.NoMemory;
  ahead' = [];
  exchanges = (record { count = 0; within = omega arith; appended = none_sent link.sent }, kept link.left);
  judges = (refl, refl);
}

-- What comes of the poll file comes of a check.
pub checks_by : (pass : List ℕ) (client : ClientState) (account : AcctName) (file : RequestFile) (at : Moment) (link link' : LinkView) (shown shown' : Option (List Moment)) (out out' : OutView) (ahead' : List ℕ) (got : Result ReplyFile CallStop) (end : Result (Unit {0}) ClientStop)
    → file ≡ poll_of client account → Grows shown shown' (at ∷ []) → Exchanges (request_bytes pass file at) [] link ahead' link' got → JudgesNews file.asks got out out' end
    → Checks pass client account link shown out link' shown' out' end
checks_by pass client account file at link link' shown shown' out out' ahead' got end same reads exchanges judges = record {
  at = at;
  reads = reads;
  got = got;
  ahead' = ahead';
  exchanges = subst (λ (f : RequestFile). Exchanges (request_bytes pass f at) [] link ahead' link' got) same exchanges;
  judges = subst (λ (f : RequestFile). JudgesNews f.asks got out out' end) same judges;
}

-- A reply that is accepted is told by its lines, and any other by why it isn't.
pub news_reported : (asks : List Ask) (reply : ReplyFile) (lines : List (List ℕ)) (out out' : OutView) (reported : Result (Unit {0}) PutFault) (end : Result (Unit {0}) ClientStop)
    → FollowsRule (news asks reply) (Ok lines) → Prints (printed lines) out out' reported → end ≡ print_end reported → JudgesNews asks (Ok reply) out out' end
news_reported asks reply lines out out' reported end gives prints end_is = (Ok lines, gives, (reported, prints, end_is))

pub news_refused : (asks : List Ask) (reply : ReplyFile) (fault : ClientFault) (out : OutView) → FollowsRule (news asks reply) (Err fault) → JudgesNews asks (Ok reply) out out (Err (stops.Refused fault))
news_refused asks reply fault out gives = (Err fault, gives, (refl, refl))
