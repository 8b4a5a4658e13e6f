-- A run ends with a failed save only where the store's count of faults rose in it.
use Rattle.std.proofs.Common.{◌≡◌, ◌∙◌, Bool, true, false, ℕ, ◌<◌, ◌≤◌, List, [], Option, None, Some, Result, Ok, Err, inl, inr, refl, sym, ap, subst, arith}
use Rattle.ofx_ports.specs.Faults.{Rose}
use Rattle.ofx_ports.specs.declared.fault.PutFault.{PutFault}
use Rattle.ofx_ports.specs.declared.fault.PutFault.TheVariants as puts
use Rattle.ofx_types.specs.declared.reply.ReplyFile.{ReplyFile}
use Rattle.ofx_types.specs.declared.request.Ask.{Ask}
use Rattle.ofx_types.specs.declared.told.Note.{Note}
use Rattle.ofx_types.specs.declared.told.Note.TheVariants.{Plain, Place, Shape}
use Rattle.ofx_types.specs.declared.told.Told.{Told}
use Rattle.client_saved.specs.declared.state.ClientState.{ClientState}
use Rattle.client_saved.specs.declared.state.Outstanding.{Outstanding}
use Rattle.client_core.specs.ClientForm.{discarded}
use Rattle.client_core.specs.Accepting.{Accepted}
use Rattle.client_core.specs.Making.{poll_of}
use Rattle.client_core.specs.declared.fault.ClientFault.{ClientFault}
use Rattle.client_core.specs.declared.fault.ClientFault.TheVariants as faults
use Rattle.client_core.specs.declared.wish.Wish.{Wish}
use Rattle.client_core.specs.declared.wish.Wish.TheVariants as wishes
use Rattle.client_arguments.specs.declared.order.Order.{Order}
use Rattle.client_run.specs.Views.{LinkView, StoreView, OutView, PortsView}
use Rattle.client_run.specs.Saves.{Finds, Saves}
use Rattle.client_run.specs.Commands.{Resumes, KeepsMade, keep_end, SendsIf, MakesIf, Acts, ReportsNews, JudgesNews, Works}
use Rattle.client_run.specs.Exact.{OnlyBrokenStores}
use Rattle.client_run.specs.Lines.{printed}
use Rattle.client_run.specs.Run.{WorksIf, IsClientRun}
use Rattle.client_run.specs.Sending.{print_end, Leaves, PrintsIf, GoesBy, given_up, is_bad_request, Drops, Follows, SendsOutstanding}
use Rattle.client_run.specs.Stopping.{reported, reported_of, reported_of_call, reported_of_refusal}
use Rattle.client_run.specs.declared.stop.CallStop.{CallStop}
use Rattle.client_run.specs.declared.stop.CallStop.TheVariants as calls
use Rattle.client_run.specs.declared.stop.StoreOpenFault.{StoreOpenFault}
use Rattle.client_run.specs.declared.stop.StoreOpenFault.TheVariants as opens
use Rattle.client_run.specs.declared.stop.ClientStop.{ClientStop}
use Rattle.client_run.specs.declared.stop.ClientStop.TheVariants as stops
use Rattle.client_run.proofs.WorkEnds.{IsWorkEnd, works_end}
use Rattle.client_run.proofs.Opened.{statuses_differ}

abbrev IsBroken : Result (Unit {0}) ClientStop → Type 0
IsBroken end = end ≡ Err (stops.Keep puts.Failed)

-- The count hasn't fallen where a step went well, and rose where its save failed.
record Counts (store store' : StoreView) (end : Result (Unit {0}) ClientStop) : Type 0 where
  pub later : (done : Unit {0}) → end ≡ Ok done → store.faults ≤ store'.faults
  pub rose : IsBroken end → Rose store.faults store'.faults

pub from_later : (a b c : ℕ) → a ≤ b → Rose b c → Rose a c
from_later a b c later (inl more) = inl (omega (arith, later, more))
from_later a b c later (inr most) = inr most

-- ---- steps

unchanged : (store store' : StoreView) (end : Result (Unit {0}) ClientStop) → store' ≡ store → (IsBroken end → ⊥) → Counts store store' end
unchanged store store' end same never = record {
  later = λ done well. subst (λ (s : StoreView). store.faults ≤ s.faults) (sym same) (omega arith);
  rose = λ broken. absurd (never broken);
}

leaves_counts : (client : ClientState) (stop : ClientStop) (store : StoreView) (out : OutView) (client' : ClientState) (store' : StoreView) (out' : OutView) (end : Result (Unit {0}) ClientStop) → (stop ≡ stops.Keep puts.Failed → ⊥) → Leaves client stop store out client' store' out' end → Counts store store' end
leaves_counts client stop store out client' store' out' end never leaves = unchanged store store' end leaves.store_is
    (λ broken. let both = sym leaves.end_is ∙ broken in never cc)

well_broken : (done : Unit {0}) (end : Result (Unit {0}) ClientStop) → end ≡ Ok done → IsBroken end → ⊥
well_broken done end well broken = cc

ended_well : (stop : ClientStop) (done : Unit {0}) (end : Result (Unit {0}) ClientStop) → end ≡ Err stop → end ≡ Ok done → ⊥
ended_well stop done end ended well = cc

print_unbroken : (reported : Result (Unit {0}) PutFault) (end : Result (Unit {0}) ClientStop) → end ≡ print_end reported → IsBroken end → ⊥
print_unbroken (Ok done) end e broken = cc
print_unbroken (Err fault) end e broken = cc

keep_counts : (client : ClientState) (store store' : StoreView) (kept : Result (Unit {0}) PutFault) (end : Result (Unit {0}) ClientStop) → Saves client store store' kept → end ≡ keep_end kept → Counts store store' end
keep_counts client store store' (Ok done) end (text, saved, becomes, later) e = record {
  later = λ well is. later;
  rose = λ broken. absurd (well_broken done end e broken);
}
keep_counts client store store' (Err puts.Failed) end (rose, holds) e = record {
  later = λ well is. absurd (ended_well (stops.Keep puts.Failed) well end e is);
  rose = λ broken. rose;
}
keep_counts client store store' (Err puts.OutOfMemory) end stays e = record {
  later = λ well is. absurd (ended_well (stops.Keep puts.OutOfMemory) well end e is);
  rose = λ broken. absurd (let both = sym e ∙ broken in cc);
}

takes_counts : (client : ClientState) (bytes : List ℕ) (kept : Result (Unit {0}) PutFault) (store store' : StoreView) (out out' : OutView) (end : Result (Unit {0}) ClientStop) → Saves client store store' kept → PrintsIf bytes kept out out' end → Counts store store' end
takes_counts client bytes (Err fault) store store' out out' end saves prints = keep_counts client store store' (Err fault) end saves prints.0
takes_counts client bytes (Ok done) store store' out out' end (text, saved, becomes, later) (reported, prints, end_is) = record {
  later = λ well is. later;
  rose = λ broken. absurd (print_unbroken reported end end_is broken);
}

goes_counts : (client : ClientState) (judged : Result Accepted ClientFault) (store : StoreView) (out : OutView) (client' : ClientState) (store' : StoreView) (out' : OutView) (end : Result (Unit {0}) ClientStop) → GoesBy client judged store out client' store' out' end → Counts store store' end
goes_counts client (Err fault) store out client' store' out' end leaves = leaves_counts client (stops.Refused fault) store out client' store' out' end (λ same. cc) leaves
goes_counts client (Ok taken) store out client' store' out' end takes = takes_counts taken.after (printed taken.lines) takes.kept store store' out out' end takes.saves takes.prints

gives_counts : (client : ClientState) (call : CallStop) (kept : Result (Unit {0}) PutFault) (store store' : StoreView) (end : Result (Unit {0}) ClientStop) → Saves (discarded client) store store' kept → end ≡ Err (given_up call kept) → Counts store store' end
gives_counts client call (Err fault) store store' end saves e = keep_counts (discarded client) store store' (Err fault) end saves e
gives_counts client call (Ok done) store store' end saves e = record {
  later = λ well is. absurd (ended_well (stops.Call call) well end e is);
  rose = λ broken. absurd (let both = sym e ∙ broken in cc);
}

drops_counts : (bad : Bool) (client : ClientState) (stop : CallStop) (store : StoreView) (out : OutView) (client' : ClientState) (store' : StoreView) (out' : OutView) (end : Result (Unit {0}) ClientStop) → Drops bad client stop store out client' store' out' end → Counts store store' end
drops_counts true client stop store out client' store' out' end gives =
    gives_counts client stop gives.gives_up.kept store store' end gives.gives_up.saves (gives.end_is ∙ ap (λ (s : ClientStop). Err s) gives.gives_up.stop_is)
drops_counts false client stop store out client' store' out' end leaves = leaves_counts client (stops.Call stop) store out client' store' out' end (λ same. cc) leaves

follows_counts : (client : ClientState) (got : Result ReplyFile CallStop) (store : StoreView) (out : OutView) (client' : ClientState) (store' : StoreView) (out' : OutView) (end : Result (Unit {0}) ClientStop) → Follows client got store out client' store' out' end → Counts store store' end
follows_counts client (Ok reply) store out client' store' out' end (judged, gives, goes) = goes_counts client judged store out client' store' out' end goes
follows_counts client (Err stop) store out client' store' out' end drops = drops_counts (is_bad_request stop) client stop store out client' store' out' end drops

settles_counts : (pass : List ℕ) (client : ClientState) (ahead : List ℕ) (link : LinkView) (store : StoreView) (out : OutView) (client' : ClientState) (ahead' : List ℕ) (link' : LinkView) (store' : StoreView) (out' : OutView) (end : Result (Unit {0}) ClientStop) → SendsOutstanding pass client ahead link store out client' ahead' link' store' out' end → Counts store store' end
settles_counts pass client ahead link store out client' ahead' link' store' out' end settles = follows_counts client settles.got store out client' store' out' end settles.follows

resumes_counts : (pass : List ℕ) (outstanding : Option Outstanding) (client : ClientState) (link : LinkView) (store : StoreView) (out : OutView) (client' : ClientState) (ahead' : List ℕ) (link' : LinkView) (store' : StoreView) (out' : OutView) (end : Result (Unit {0}) ClientStop) → Resumes pass outstanding client link store out client' ahead' link' store' out' end → Counts store store' end
resumes_counts pass None client link store out client' ahead' link' store' out' end (end_is, client_is, ahead_is, link_is, store_is, out_is) = unchanged store store' end store_is (well_broken tt end end_is)
resumes_counts pass (Some kept) client link store out client' ahead' link' store' out' end settles = settles_counts pass client [] link store out client' ahead' link' store' out' end settles

made_counts : (judged : Result ClientState ClientFault) (client : ClientState) (store : StoreView) (client' : ClientState) (store' : StoreView) (end : Result (Unit {0}) ClientStop) → KeepsMade judged client store client' store' end → Counts store store' end
made_counts (Err fault) client store client' store' end (end_is, client_is, store_is) = unchanged store store' end store_is (λ broken. let both = sym end_is ∙ broken in cc)
made_counts (Ok next) client store client' store' end (kept, client_is, saves, end_is) = keep_counts next store store' kept end saves end_is

-- ---- one after another

both_count : (start store store' : StoreView) (done : Unit {0}) (end : Result (Unit {0}) ClientStop) → Counts start store (Ok done) → Counts store store' end → Counts start store' end
both_count start store store' done end first second = record {
  later = λ well is. omega (arith, first.later done refl, second.later well is);
  rose = λ broken. from_later start.faults store.faults store'.faults (first.later done refl) (second.rose broken);
}

sends_rose : (start : StoreView) (pass : List ℕ) (next : ClientState) (ahead : List ℕ) (made_end : Result (Unit {0}) ClientStop) (before after : PortsView) (end : Result (Unit {0}) ClientStop) → Counts start before.store made_end → SendsIf pass next ahead made_end before after end → IsBroken end → Rose start.faults after.store.faults
sends_rose start pass next ahead (Err stop) before after end counts (end_is, same) broken =
    subst (λ (ports : PortsView). Rose start.faults ports.store.faults) (sym same) (counts.rose (sym end_is ∙ broken))
sends_rose start pass next ahead (Ok done) before after end counts (client', ahead', shown_is, settles) broken =
    (both_count start before.store after.store done end counts (settles_counts pass next ahead before.link before.store before.out client' ahead' after.link after.store after.out end settles)).rose broken

makes_rose : (start : StoreView) (pass : List ℕ) (wish : Wish) (later : ClientState) (ahead : List ℕ) (first : Result (Unit {0}) ClientStop) (before after : PortsView) (end : Result (Unit {0}) ClientStop) → Counts start before.store first → MakesIf pass wish later ahead first before after end → IsBroken end → Rose start.faults after.store.faults
makes_rose start pass wish later ahead (Err stop) before after end counts (end_is, same) broken =
    subst (λ (ports : PortsView). Rose start.faults ports.store.faults) (sym same) (counts.rose (sym end_is ∙ broken))
makes_rose start pass wish later ahead (Ok done) before after end counts makes broken =
    sends_rose start pass makes.next ahead makes.made_end makes.between after end
    (both_count start before.store makes.between.store done makes.made_end counts (made_counts makes.makes.judged later before.store makes.next makes.between.store makes.made_end makes.makes.keeps))
    makes.sends broken

acts_rose : (pass : List ℕ) (wish : Wish) (client : ClientState) (before after : PortsView) (end : Result (Unit {0}) ClientStop) → Acts pass wish client before after end → IsBroken end → Rose before.store.faults after.store.faults
acts_rose pass wish client before after end acts broken =
    makes_rose before.store pass wish acts.later acts.ahead acts.first acts.between after end
    (resumes_counts pass client.outstanding client before.link before.store before.out acts.later acts.ahead acts.between.link acts.between.store acts.between.out acts.first acts.resumes)
    acts.makes broken

reports_unbroken : (judged : Result (List (List ℕ)) ClientFault) (out out' : OutView) (end : Result (Unit {0}) ClientStop) → ReportsNews judged out out' end → IsBroken end → ⊥
reports_unbroken (Err fault) out out' end (end_is, same) broken = let both = sym end_is ∙ broken in cc
reports_unbroken (Ok lines) out out' end (reported, prints, end_is) broken = print_unbroken reported end end_is broken

judges_unbroken : (asks : List Ask) (got : Result ReplyFile CallStop) (out out' : OutView) (end : Result (Unit {0}) ClientStop) → JudgesNews asks got out out' end → IsBroken end → ⊥
judges_unbroken asks (Err stop) out out' end (end_is, same) broken = let both = sym end_is ∙ broken in cc
judges_unbroken asks (Ok reply) out out' end (judged, gives, reports) broken = reports_unbroken judged out out' end reports broken

works_rose : (pass : List ℕ) (wish : Wish) (client : ClientState) (before after : PortsView) (end : Result (Unit {0}) ClientStop) → Works pass wish client before after end → IsBroken end → Rose before.store.faults after.store.faults
works_rose pass wishes.Show client before after end (shows, link_is, store_is, shown_is) broken = absurd (print_unbroken shows.reported end shows.end_is broken)
works_rose pass (wishes.Check account) client before after end (checks, store_is) broken = absurd (judges_unbroken (poll_of client account).asks checks.got before.out after.out end checks.judges broken)
works_rose pass (wishes.Sync account) client before after end acts broken = acts_rose pass _ client before after end acts broken
works_rose pass (wishes.Transfer info) client before after end acts broken = acts_rose pass _ client before after end acts broken
works_rose pass (wishes.Modify id to amount due) client before after end acts broken = acts_rose pass _ client before after end acts broken
works_rose pass (wishes.Cancel id) client before after end acts broken = acts_rose pass _ client before after end acts broken
works_rose pass (wishes.Repeat recur info) client before after end acts broken = acts_rose pass _ client before after end acts broken
works_rose pass (wishes.Stop id) client before after end acts broken = acts_rose pass _ client before after end acts broken
works_rose pass (wishes.Mail subject body) client before after end acts broken = acts_rose pass _ client before after end acts broken

-- ---- what is told

call_apart : (stop : CallStop) (note : Note) → reported_of_call stop ≡ reported 8 note → ⊥
call_apart calls.ReadFailed note e = statuses_differ 5 8 Plain note refl e
call_apart calls.WriteFailed note e = statuses_differ 6 8 Plain note refl e
call_apart calls.NoMemory note e = statuses_differ 7 8 Plain note refl e
call_apart calls.BadHead note e = statuses_differ 16 8 Plain note refl e
call_apart (calls.Cut count) note e = statuses_differ 17 8 (Place count) note refl e
call_apart (calls.Http code) note e = statuses_differ 11 8 (Place code) note refl e
call_apart (calls.BadReply at) note e = statuses_differ 12 8 (Place at) note refl e

refusal_apart : (fault : ClientFault) (note : Note) → reported_of_refusal fault ≡ reported 8 note → ⊥
refusal_apart faults.BadName note e = statuses_differ 2 8 Plain note refl e
refusal_apart faults.NotMine note e = statuses_differ 13 8 Plain note refl e
refusal_apart faults.OutOfMemory note e = statuses_differ 7 8 Plain note refl e
refusal_apart (faults.NoRow id) note e = statuses_differ 18 8 (Place id) note refl e
refusal_apart (faults.Signon code) note e = statuses_differ 14 8 (Place code) note refl e
refusal_apart (faults.Shape number) note e = statuses_differ 12 8 (Shape number) note refl e

broken_reported : (end : Result (Unit {0}) ClientStop) (note : Note) → IsWorkEnd end → reported_of end ≡ reported 8 note → IsBroken end
broken_reported (Ok done) note is e = absurd (statuses_differ 0 8 Plain note refl e)
broken_reported (Err (stops.Open fault)) note is e = absurd is
broken_reported (Err (stops.Call stop)) note is e = absurd (call_apart stop note e)
broken_reported (Err (stops.Refused fault)) note is e = absurd (refusal_apart fault note e)
broken_reported (Err (stops.Keep puts.Failed)) note is e = refl
broken_reported (Err (stops.Keep puts.OutOfMemory)) note is e = absurd (statuses_differ 7 8 Plain note refl e)
broken_reported (Err (stops.Print puts.Failed)) note is e = absurd (statuses_differ 6 8 Plain note refl e)
broken_reported (Err (stops.Print puts.OutOfMemory)) note is e = absurd (statuses_differ 7 8 Plain note refl e)

found_rose : (order : Order) (before between after : PortsView) (end : Result (Unit {0}) ClientStop) (note : Note) (found : Result ClientState StoreOpenFault)
    → before.store.faults ≤ between.store.faults → Finds order before.store between.store found → WorksIf order found between after end → reported_of end ≡ reported 8 note → Rose before.store.faults after.store.faults
found_rose order before between after end note (Ok client) later finds works reported_is =
    from_later before.store.faults between.store.faults after.store.faults later
    (works_rose order.pass order.wish client between after end works (broken_reported end note (works_end order.pass order.wish client between after end works) reported_is))
found_rose order before between after end note (Err opens.Failed) later rose (end_is, same) reported_is =
    subst (λ (ports : PortsView). Rose before.store.faults ports.store.faults) (sym same) rose
found_rose order before between after end note (Err opens.NotOurs) later finds works reported_is = absurd (statuses_differ 2 8 Plain note refl (sym (ap reported_of works.0) ∙ reported_is))
found_rose order before between after end note (Err (opens.Bad at)) later finds works reported_is = absurd (statuses_differ 15 8 (Place at) note refl (sym (ap reported_of works.0) ∙ reported_is))
found_rose order before between after end note (Err opens.OutOfMemory) later finds works reported_is = absurd (statuses_differ 7 8 Plain note refl (sym (ap reported_of works.0) ∙ reported_is))

pub only_stores : OnlyBrokenStores
only_stores arguments before after what note (inl unordered) is = absurd (statuses_differ 2 8 Plain note refl (sym unordered.reported_is ∙ is))
only_stores arguments before after what note (inr (inl run)) is =
    found_rose run.order before run.runs.between after run.end note run.runs.found run.runs.opens.later run.runs.opens.finds run.runs.works (sym run.reported_is ∙ is)
only_stores arguments before after what note (inr (inr unread)) is = absurd (statuses_differ 7 8 Plain note refl (sym unread.reported_is ∙ is))
