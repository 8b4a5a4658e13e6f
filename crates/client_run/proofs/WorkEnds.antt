-- How a run may end that found a client: never as where it found none.
use Rattle.std.proofs.Common.{◌≡◌, ◌∙◌, not, Bool, true, false, cond, ℕ, List, [], Option, None, Some, Result, Ok, Err, refl, sym, ap, subst}
use Rattle.std.specs.Prelude.{◌==◌, ◌||◌}
use Rattle.std.specs.Option.{option_map}
use Rattle.ofx_ports.specs.declared.fault.PutFault.{PutFault}
use Rattle.ofx_ports.specs.declared.fault.PutFault.TheVariants as puts
use Rattle.ofx_types.specs.declared.account.AcctName.{AcctName}
use Rattle.ofx_types.specs.declared.number.Cents.{Cents}
use Rattle.ofx_types.specs.declared.number.Day.{Day}
use Rattle.ofx_types.specs.declared.number.Moment.{Moment}
use Rattle.ofx_types.specs.declared.recurring.ModelRow.{ModelRow}
use Rattle.ofx_types.specs.declared.reply.ReplyFile.{ReplyFile}
use Rattle.ofx_types.specs.declared.request.Ask.{Ask}
use Rattle.ofx_types.specs.declared.request.RequestFile.{RequestFile}
use Rattle.ofx_types.specs.declared.told.Told.{Told}
use Rattle.ofx_types.specs.declared.transfer.TransferRow.{TransferRow}
use Rattle.client_saved.specs.declared.state.ClientState.{ClientState}
use Rattle.client_saved.specs.declared.state.Outstanding.{Outstanding}
use Rattle.client_core.specs.Accepting.{Accepted, accepted, accepted_to, accepted_unless, refusal_for, same_name}
use Rattle.client_core.specs.Answering.{first_unanswered}
use Rattle.client_core.specs.Making.{made, made_for, poll_of}
use Rattle.client_core.specs.ReportLines.{FollowsRule, IsRefusal}
use Rattle.client_core.specs.Wishes.{content_of, modifying, cancelling, stopping, transfer_kept, model_kept}
use Rattle.client_core.specs.declared.fault.ClientFault.{ClientFault}
use Rattle.client_core.specs.declared.fault.ClientFault.TheVariants as faults
use Rattle.client_core.specs.declared.wish.Wish.{Wish}
use Rattle.client_core.specs.declared.wish.Wish.TheVariants as wishes
use Rattle.client_run.specs.Views.{LinkView, StoreView, OutView, PortsView}
use Rattle.client_run.specs.Commands.{Resumes, KeepsMade, keep_end, Makes, SendsIf, MakesAndSends, MakesIf, Acts, ReportsNews, JudgesNews, Checks, Shows, Works}
use Rattle.client_run.specs.Lines.{news, news_unless, printed}
use Rattle.client_run.specs.Sending.{print_end, Leaves, PrintsIf, Accepts, GoesBy, Judges, given_up, GivesUp, is_bad_request, Drops, Follows, SendsOutstanding}
use Rattle.client_run.specs.Stopping.{reported_of, reported_of_call, reported_of_refusal}
use Rattle.client_run.specs.declared.stop.CallStop.{CallStop}
use Rattle.client_run.specs.declared.stop.CallStop.TheVariants as calls
use Rattle.client_run.specs.declared.stop.ClientStop.{ClientStop}
use Rattle.client_run.specs.declared.stop.ClientStop.TheVariants as stops

-- ---- no refusal is for a bad name

abbrev IsWorkFault : ClientFault → Type 0
IsWorkFault faults.BadName = ⊥
IsWorkFault faults.NotMine = Unit {0}
IsWorkFault faults.OutOfMemory = Unit {0}
IsWorkFault (faults.NoRow id) = Unit {0}
IsWorkFault (faults.Signon code) = Unit {0}
IsWorkFault (faults.Shape number) = Unit {0}

refused_so : {A : Type 0} (given : Result A ClientFault) (fault : ClientFault) → IsRefusal given fault → (given ≡ Err faults.BadName → ⊥) → IsWorkFault fault
refused_so given faults.BadName is never = never is
refused_so given faults.NotMine is never = tt
refused_so given faults.OutOfMemory is never = tt
refused_so given (faults.NoRow id) is never = tt
refused_so given (faults.Signon code) is never = tt
refused_so given (faults.Shape number) is never = tt

refusal_named : (other failed : Bool) (code : ℕ) (shape : Option ℕ) → cond other (Some faults.NotMine) (cond failed (Some (faults.Signon code)) (option_map (λ (number : ℕ). faults.Shape number) shape)) ≡ Some faults.BadName → ⊥
refusal_named true failed code shape e = cc
refusal_named false true code shape e = cc
refusal_named false false code None e = cc
refusal_named false false code (Some number) e = cc

unless_named : (client : ClientState) (file : RequestFile) (reply : ReplyFile) (refusal : Option ClientFault) → (refusal ≡ Some faults.BadName → ⊥) → accepted_unless client file reply refusal ≡ Err faults.BadName → ⊥
unless_named client file reply None never e = cc
unless_named client file reply (Some fault) never e = let same : fault ≡ faults.BadName = cc in never (ap (λ (f : ClientFault). Some f) same)

to_named : (client : ClientState) (outstanding : Option Outstanding) (reply : ReplyFile) → accepted_to client outstanding reply ≡ Err faults.BadName → ⊥
to_named client None reply e = cc
to_named client (Some kept) reply e = unless_named client kept.file reply (refusal_for kept.file reply)
    (refusal_named (not (same_name kept.file.newer reply.newer)) (not (reply.signon == 0)) reply.signon (first_unanswered kept.file.asks reply.replies)) e

accepted_named : (client : ClientState) (reply : ReplyFile) → accepted client reply ≡ Err faults.BadName → ⊥
unfolding accepted
accepted_named client reply e = to_named client client.outstanding reply e

news_by : (failed : Bool) (code : ℕ) (asks : List Ask) (reply : ReplyFile) (shape : Option ℕ) → cond failed (Err (faults.Signon code)) (news_unless asks reply.replies shape) ≡ Err faults.BadName → ⊥
news_by true code asks reply shape e = cc
news_by false code asks reply None e = cc
news_by false code asks reply (Some number) e = cc

news_named : (asks : List Ask) (reply : ReplyFile) → news asks reply ≡ Err faults.BadName → ⊥
unfolding news
news_named asks reply e = news_by (not (reply.signon == 0)) reply.signon asks reply (first_unanswered asks reply.replies) e

modifying_named : (id : ℕ) (to : AcctName) (amount : Cents) (due : Day) (row : Option TransferRow) → modifying id to amount due row ≡ Err faults.BadName → ⊥
modifying_named id to amount due None e = cc
modifying_named id to amount due (Some row) e = cc

cancelling_named : (id : ℕ) (row : Option TransferRow) → cancelling id row ≡ Err faults.BadName → ⊥
cancelling_named id None e = cc
cancelling_named id (Some row) e = cc

stopping_named : (id : ℕ) (row : Option ModelRow) → stopping id row ≡ Err faults.BadName → ⊥
stopping_named id None e = cc
stopping_named id (Some row) e = cc

content_named : (client : ClientState) (wish : Wish) (at : Moment) → content_of client wish at ≡ Err faults.BadName → ⊥
unfolding content_of
content_named client (wishes.Sync account) at e = cc
content_named client (wishes.Transfer info) at e = cc
content_named client (wishes.Modify id to amount due) at e = modifying_named id to amount due (transfer_kept id client.stores) e
content_named client (wishes.Cancel id) at e = cancelling_named id (transfer_kept id client.stores) e
content_named client (wishes.Repeat recur info) at e = cc
content_named client (wishes.Stop id) at e = stopping_named id (model_kept id client.stores) e
content_named client (wishes.Mail subject body) at e = cc
content_named client (wishes.Check account) at e = cc
content_named client wishes.Show at e = cc

made_named : (client : ClientState) (wish : Wish) (at : Moment) → made client wish at ≡ Err faults.BadName → ⊥
unfolding made
made_named client wish at e =
    (elim (content_of client wish at) as (λ content. (content ≡ Err faults.BadName → ⊥) → made_for client at content ≡ Err faults.BadName → ⊥) [
      | Ok content ↦ (λ never refused. cc)
      | Err fault ↦ (λ never refused. let same : fault ≡ faults.BadName = cc in never (ap (λ (f : ClientFault). Err f) same))
    ]) (content_named client wish at) e

-- ---- ends

abbrev pub IsWorkEnd : Result (Unit {0}) ClientStop → Type 0
IsWorkEnd (Ok done) = Unit {0}
IsWorkEnd (Err (stops.Open fault)) = ⊥
IsWorkEnd (Err (stops.Call stop)) = Unit {0}
IsWorkEnd (Err (stops.Refused fault)) = IsWorkFault fault
IsWorkEnd (Err (stops.Keep fault)) = Unit {0}
IsWorkEnd (Err (stops.Print fault)) = Unit {0}

print_works : (reported : Result (Unit {0}) PutFault) → IsWorkEnd (print_end reported)
print_works (Ok done) = tt
print_works (Err fault) = tt

keep_works : (kept : Result (Unit {0}) PutFault) → IsWorkEnd (keep_end kept)
keep_works (Ok done) = tt
keep_works (Err fault) = tt

given_works : (stop : CallStop) (kept : Result (Unit {0}) PutFault) → IsWorkEnd (Err (given_up stop kept))
given_works stop (Ok done) = tt
given_works stop (Err fault) = tt

prints_work : (bytes : List ℕ) (kept : Result (Unit {0}) PutFault) (out out' : OutView) (end : Result (Unit {0}) ClientStop) → PrintsIf bytes kept out out' end → IsWorkEnd end
prints_work bytes (Err fault) out out' end (end_is, same) = subst IsWorkEnd (sym end_is) tt
prints_work bytes (Ok done) out out' end (reported, prints, end_is) = subst IsWorkEnd (sym end_is) (print_works reported)

goes_work : (client : ClientState) (reply : ReplyFile) (judged : Result Accepted ClientFault) (store : StoreView) (out : OutView) (client' : ClientState) (store' : StoreView) (out' : OutView) (end : Result (Unit {0}) ClientStop) → FollowsRule (accepted client reply) judged → GoesBy client judged store out client' store' out' end → IsWorkEnd end
goes_work client reply (Err fault) store out client' store' out' end gives leaves = subst IsWorkEnd (sym leaves.end_is) (refused_so (accepted client reply) fault gives (accepted_named client reply))
goes_work client reply (Ok taken) store out client' store' out' end gives takes = prints_work (printed taken.lines) takes.kept out out' end takes.prints

drops_work : (bad : Bool) (client : ClientState) (stop : CallStop) (store : StoreView) (out : OutView) (client' : ClientState) (store' : StoreView) (out' : OutView) (end : Result (Unit {0}) ClientStop) → Drops bad client stop store out client' store' out' end → IsWorkEnd end
drops_work true client stop store out client' store' out' end gives =
    subst IsWorkEnd (sym gives.end_is) (subst (λ (s : ClientStop). IsWorkEnd (Err s)) (sym gives.gives_up.stop_is) (given_works stop gives.gives_up.kept))
drops_work false client stop store out client' store' out' end leaves = subst IsWorkEnd (sym leaves.end_is) tt

follows_work : (client : ClientState) (got : Result ReplyFile CallStop) (store : StoreView) (out : OutView) (client' : ClientState) (store' : StoreView) (out' : OutView) (end : Result (Unit {0}) ClientStop) → Follows client got store out client' store' out' end → IsWorkEnd end
follows_work client (Ok reply) store out client' store' out' end (judged, gives, goes) = goes_work client reply judged store out client' store' out' end gives goes
follows_work client (Err stop) store out client' store' out' end drops = drops_work (is_bad_request stop) client stop store out client' store' out' end drops

settles_work : (pass : List ℕ) (client : ClientState) (ahead : List ℕ) (link : LinkView) (store : StoreView) (out : OutView) (client' : ClientState) (ahead' : List ℕ) (link' : LinkView) (store' : StoreView) (out' : OutView) (end : Result (Unit {0}) ClientStop) → SendsOutstanding pass client ahead link store out client' ahead' link' store' out' end → IsWorkEnd end
settles_work pass client ahead link store out client' ahead' link' store' out' end settles = follows_work client settles.got store out client' store' out' end settles.follows

resumes_work : (pass : List ℕ) (outstanding : Option Outstanding) (client : ClientState) (link : LinkView) (store : StoreView) (out : OutView) (client' : ClientState) (ahead' : List ℕ) (link' : LinkView) (store' : StoreView) (out' : OutView) (end : Result (Unit {0}) ClientStop) → Resumes pass outstanding client link store out client' ahead' link' store' out' end → IsWorkEnd end
resumes_work pass None client link store out client' ahead' link' store' out' end resumes = subst IsWorkEnd (sym resumes.0) tt
resumes_work pass (Some kept) client link store out client' ahead' link' store' out' end settles = settles_work pass client [] link store out client' ahead' link' store' out' end settles

keeps_work : (judged : Result ClientState ClientFault) (client : ClientState) (wish : Wish) (at : Moment) (store : StoreView) (client' : ClientState) (store' : StoreView) (end : Result (Unit {0}) ClientStop) → FollowsRule (made client wish at) judged → KeepsMade judged client store client' store' end → IsWorkEnd end
keeps_work (Err fault) client wish at store client' store' end gives keeps = subst IsWorkEnd (sym keeps.0) (refused_so (made client wish at) fault gives (made_named client wish at))
keeps_work (Ok next) client wish at store client' store' end gives (kept, client_is, saves, end_is) = subst IsWorkEnd (sym end_is) (keep_works kept)

sends_work : (pass : List ℕ) (client : ClientState) (ahead : List ℕ) (made_end : Result (Unit {0}) ClientStop) (before after : PortsView) (end : Result (Unit {0}) ClientStop) → IsWorkEnd made_end → SendsIf pass client ahead made_end before after end → IsWorkEnd end
sends_work pass client ahead (Err stop) before after end is (end_is, same) = subst IsWorkEnd (sym end_is) is
sends_work pass client ahead (Ok done) before after end is (client', ahead', shown_is, settles) = settles_work pass client ahead before.link before.store before.out client' ahead' after.link after.store after.out end settles

makes_work : (pass : List ℕ) (wish : Wish) (client : ClientState) (ahead : List ℕ) (first : Result (Unit {0}) ClientStop) (before after : PortsView) (end : Result (Unit {0}) ClientStop) → IsWorkEnd first → MakesIf pass wish client ahead first before after end → IsWorkEnd end
makes_work pass wish client ahead (Err stop) before after end is (end_is, same) = subst IsWorkEnd (sym end_is) is
makes_work pass wish client ahead (Ok done) before after end is makes =
    sends_work pass makes.next ahead makes.made_end makes.between after end
    (keeps_work makes.makes.judged client wish makes.makes.at before.store makes.next makes.between.store makes.made_end makes.makes.gives makes.makes.keeps) makes.sends

acts_work : (pass : List ℕ) (wish : Wish) (client : ClientState) (before after : PortsView) (end : Result (Unit {0}) ClientStop) → Acts pass wish client before after end → IsWorkEnd end
acts_work pass wish client before after end acts =
    makes_work pass wish acts.later acts.ahead acts.first acts.between after end
    (resumes_work pass client.outstanding client before.link before.store before.out acts.later acts.ahead acts.between.link acts.between.store acts.between.out acts.first acts.resumes) acts.makes

reports_work : (asks : List Ask) (reply : ReplyFile) (judged : Result (List (List ℕ)) ClientFault) (out out' : OutView) (end : Result (Unit {0}) ClientStop) → FollowsRule (news asks reply) judged → ReportsNews judged out out' end → IsWorkEnd end
reports_work asks reply (Err fault) out out' end gives reports = subst IsWorkEnd (sym reports.0) (refused_so (news asks reply) fault gives (news_named asks reply))
reports_work asks reply (Ok lines) out out' end gives (reported, prints, end_is) = subst IsWorkEnd (sym end_is) (print_works reported)

judges_work : (asks : List Ask) (got : Result ReplyFile CallStop) (out out' : OutView) (end : Result (Unit {0}) ClientStop) → JudgesNews asks got out out' end → IsWorkEnd end
judges_work asks (Err stop) out out' end judges = subst IsWorkEnd (sym judges.0) tt
judges_work asks (Ok reply) out out' end (judged, gives, reports) = reports_work asks reply judged out out' end gives reports

-- A run that found a client never ends as where it found none.
pub works_end : (pass : List ℕ) (wish : Wish) (client : ClientState) (before after : PortsView) (end : Result (Unit {0}) ClientStop) → Works pass wish client before after end → IsWorkEnd end
works_end pass wishes.Show client before after end (shows, link_is, store_is, shown_is) = subst IsWorkEnd (sym shows.end_is) (print_works shows.reported)
works_end pass (wishes.Check account) client before after end (checks, store_is) = judges_work (poll_of client account).asks checks.got before.out after.out end checks.judges
works_end pass (wishes.Sync account) client before after end acts = acts_work pass _ client before after end acts
works_end pass (wishes.Transfer info) client before after end acts = acts_work pass _ client before after end acts
works_end pass (wishes.Modify id to amount due) client before after end acts = acts_work pass _ client before after end acts
works_end pass (wishes.Cancel id) client before after end acts = acts_work pass _ client before after end acts
works_end pass (wishes.Repeat recur info) client before after end acts = acts_work pass _ client before after end acts
works_end pass (wishes.Stop id) client before after end acts = acts_work pass _ client before after end acts
works_end pass (wishes.Mail subject body) client before after end acts = acts_work pass _ client before after end acts

-- ---- what is reported of them

abbrev pub is_opening : ℕ → Bool
is_opening status = (status == 2) || (status == 15)

abbrev pub of_opening : Told → Bool
of_opening what = is_opening what.status.0

report_of_call : (stop : CallStop) → of_opening (reported_of_call stop) ≡ false
report_of_call calls.ReadFailed = refl
report_of_call calls.WriteFailed = refl
report_of_call calls.NoMemory = refl
report_of_call calls.BadHead = refl
report_of_call (calls.Cut count) = refl
report_of_call (calls.Http code) = refl
report_of_call (calls.BadReply at) = refl

report_of_refusal : (fault : ClientFault) → IsWorkFault fault → of_opening (reported_of_refusal fault) ≡ false
report_of_refusal faults.BadName is = absurd is
report_of_refusal faults.NotMine is = refl
report_of_refusal faults.OutOfMemory is = refl
report_of_refusal (faults.NoRow id) is = refl
report_of_refusal (faults.Signon code) is = refl
report_of_refusal (faults.Shape number) is = refl

report_of_end : (end : Result (Unit {0}) ClientStop) → IsWorkEnd end → of_opening (reported_of end) ≡ false
report_of_end (Ok done) is = refl
report_of_end (Err (stops.Open fault)) is = absurd is
report_of_end (Err (stops.Call stop)) is = report_of_call stop
report_of_end (Err (stops.Refused fault)) is = report_of_refusal fault is
report_of_end (Err (stops.Keep puts.Failed)) is = refl
report_of_end (Err (stops.Keep puts.OutOfMemory)) is = refl
report_of_end (Err (stops.Print puts.Failed)) is = refl
report_of_end (Err (stops.Print puts.OutOfMemory)) is = refl

-- It is told neither 2 nor 15.
pub not_opening : (end : Result (Unit {0}) ClientStop) (what : Told) → IsWorkEnd end → reported_of end ≡ what → of_opening what ≡ true → ⊥
not_opening end what is reported_is opening =
    let both : false ≡ true = sym (report_of_end end is) ∙ (ap of_opening reported_is ∙ opening) in cc
