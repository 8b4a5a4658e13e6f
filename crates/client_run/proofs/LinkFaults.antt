-- A run ends with a failed read or write only where a count of such faults rose in it.
use Rattle.std.proofs.Common.{◌≡◌, ◌∙◌, Bool, true, false, ℕ, ◌<◌, ◌≤◌, List, [], Option, None, Some, Result, Ok, Err, ◌⊎◌, inl, inr, refl, sym, ap, subst, arith}
use Rattle.std.specs.Prelude.{◌==◌, ◌||◌}
use Rattle.ofx_ports.specs.Faults.{Rose}
use Rattle.ofx_ports.specs.declared.fault.PutFault.{PutFault}
use Rattle.ofx_ports.specs.declared.fault.PutFault.TheVariants as puts
use Rattle.ofx_types.specs.declared.reply.ReplyFile.{ReplyFile}
use Rattle.ofx_types.specs.declared.request.Ask.{Ask}
use Rattle.ofx_types.specs.declared.told.Note.{Note}
use Rattle.ofx_types.specs.declared.told.Note.TheVariants.{Plain, Place}
use Rattle.ofx_types.specs.declared.told.Told.{Told}
use Rattle.client_saved.specs.declared.state.ClientState.{ClientState}
use Rattle.client_saved.specs.declared.state.Outstanding.{Outstanding}
use Rattle.client_core.specs.Accepting.{Accepted}
use Rattle.client_core.specs.Making.{poll_of}
use Rattle.client_core.specs.declared.fault.ClientFault.{ClientFault}
use Rattle.client_core.specs.declared.fault.ClientFault.TheVariants as faults
use Rattle.client_core.specs.declared.wish.Wish.{Wish}
use Rattle.client_core.specs.declared.wish.Wish.TheVariants as wishes
use Rattle.client_arguments.specs.declared.order.Order.{Order}
use Rattle.client_run.specs.Views.{LinkView, StoreView, OutView, PortsView}
use Rattle.client_run.specs.Commands.{Resumes, KeepsMade, keep_end, SendsIf, MakesIf, Acts, ReportsNews, JudgesNews, Works}
use Rattle.client_run.specs.Exact.{OnlyBrokenReads, OnlyBrokenWrites}
use Rattle.client_run.specs.Exchange.{request_bytes, Exchanges}
use Rattle.client_run.specs.Lines.{printed, Prints}
use Rattle.client_run.specs.Run.{WorksIf, IsClientRun}
use Rattle.client_run.specs.Sending.{print_end, PrintsIf, GoesBy, given_up, is_bad_request, Drops, Follows, Calls, SendsOutstanding}
use Rattle.client_run.specs.Stopping.{reported, reported_of, reported_of_open, reported_of_refusal, reported_of_save}
use Rattle.client_run.specs.declared.stop.CallStop.{CallStop}
use Rattle.client_run.specs.declared.stop.CallStop.TheVariants as calls
use Rattle.client_run.specs.declared.stop.StoreOpenFault.{StoreOpenFault}
use Rattle.client_run.specs.declared.stop.StoreOpenFault.TheVariants as opens
use Rattle.client_run.specs.declared.stop.ClientStop.{ClientStop}
use Rattle.client_run.specs.declared.stop.ClientStop.TheVariants as stops
use Rattle.client_run.proofs.Opened.{statuses_differ}
use Rattle.client_run.proofs.StoreFaults.{from_later}

-- ---- counts

-- A count of failed writes rose, of the link or of the output.
abbrev WriteRose : LinkView → LinkView → OutView → OutView → Type 0
WriteRose link link' out out' = Rose link.write_faults link'.write_faults ⊎ Rose out.faults out'.faults

-- The link's counts haven't fallen where a call went well, and rose where a read or a write failed.
abbrev CallCounts : LinkView → LinkView → Result ReplyFile CallStop → Type 0
CallCounts link link' (Ok reply) = (link.read_faults ≤ link'.read_faults) × (link.write_faults ≤ link'.write_faults)
CallCounts link link' (Err calls.ReadFailed) = Rose link.read_faults link'.read_faults
CallCounts link link' (Err calls.WriteFailed) = Rose link.write_faults link'.write_faults
CallCounts link link' (Err calls.NoMemory) = Unit {0}
CallCounts link link' (Err calls.BadHead) = Unit {0}
CallCounts link link' (Err (calls.Cut count)) = Unit {0}
CallCounts link link' (Err (calls.Http code)) = Unit {0}
CallCounts link link' (Err (calls.BadReply at)) = Unit {0}

-- The same of the steps of a run, and of the count of the output.
abbrev Counts : LinkView → LinkView → OutView → OutView → Result (Unit {0}) ClientStop → Type 0
Counts link link' out out' (Ok done) =
    (link.read_faults ≤ link'.read_faults) × (link.write_faults ≤ link'.write_faults) × (out.faults ≤ out'.faults)
Counts link link' out out' (Err (stops.Call calls.ReadFailed)) = Rose link.read_faults link'.read_faults
Counts link link' out out' (Err (stops.Call calls.WriteFailed)) = WriteRose link link' out out'
Counts link link' out out' (Err (stops.Call calls.NoMemory)) = Unit {0}
Counts link link' out out' (Err (stops.Call calls.BadHead)) = Unit {0}
Counts link link' out out' (Err (stops.Call (calls.Cut count))) = Unit {0}
Counts link link' out out' (Err (stops.Call (calls.Http code))) = Unit {0}
Counts link link' out out' (Err (stops.Call (calls.BadReply at))) = Unit {0}
Counts link link' out out' (Err (stops.Print puts.Failed)) = WriteRose link link' out out'
Counts link link' out out' (Err (stops.Print puts.OutOfMemory)) = Unit {0}
Counts link link' out out' (Err (stops.Open fault)) = Unit {0}
Counts link link' out out' (Err (stops.Refused fault)) = Unit {0}
Counts link link' out out' (Err (stops.Keep fault)) = Unit {0}

-- what a step ends with is what was counted
ends : (link link' : LinkView) (out out' : OutView) (end is : Result (Unit {0}) ClientStop) → end ≡ is → Counts link link' out out' is → Counts link link' out out' end
ends link link' out out' end is same counts = subst (λ (e : Result (Unit {0}) ClientStop). Counts link link' out out' e) (sym same) counts

same_out : (link link' : LinkView) (out out' : OutView) (end : Result (Unit {0}) ClientStop) → out' ≡ out → Counts link link' out out end → Counts link link' out out' end
same_out link link' out out' end same counts = subst (λ (o : OutView). Counts link link' out o end) (sym same) counts

same_link : (link link' : LinkView) (out out' : OutView) (end : Result (Unit {0}) ClientStop) → link' ≡ link → Counts link link out out' end → Counts link link' out out' end
same_link link link' out out' end same counts = subst (λ (l : LinkView). Counts link l out out' end) (sym same) counts

none_fell : (link : LinkView) (out : OutView) (done : Unit {0}) → Counts link link out out (Ok done)
none_fell link out done = (omega arith, omega arith, omega arith)

-- ---- steps

call_counts : (request ahead ahead' : List ℕ) (link link' : LinkView) (got : Result ReplyFile CallStop) → Exchanges request ahead link ahead' link' got → CallCounts link link' got
call_counts request ahead ahead' link link' (Ok reply) (sent, writes, (bytes, brings, used, reads)) = (reads, writes)
call_counts request ahead ahead' link link' (Err calls.ReadFailed) (sent, (unread, (unfinished, rose))) = rose
call_counts request ahead ahead' link link' (Err calls.WriteFailed) (sent, rose, unread) = rose
call_counts request ahead ahead' link link' (Err calls.NoMemory) exchanges = tt
call_counts request ahead ahead' link link' (Err calls.BadHead) exchanges = tt
call_counts request ahead ahead' link link' (Err (calls.Cut count)) exchanges = tt
call_counts request ahead ahead' link link' (Err (calls.Http code)) exchanges = tt
call_counts request ahead ahead' link link' (Err (calls.BadReply at)) exchanges = tt

stop_counts : (link link' : LinkView) (out : OutView) (stop : CallStop) → CallCounts link link' (Err stop) → Counts link link' out out (Err (stops.Call stop))
stop_counts link link' out calls.ReadFailed rose = rose
stop_counts link link' out calls.WriteFailed rose = inl rose
stop_counts link link' out calls.NoMemory counts = tt
stop_counts link link' out calls.BadHead counts = tt
stop_counts link link' out (calls.Cut count) counts = tt
stop_counts link link' out (calls.Http code) counts = tt
stop_counts link link' out (calls.BadReply at) counts = tt

print_counts : (link link' : LinkView) (bytes : List ℕ) (out out' : OutView) (reported : Result (Unit {0}) PutFault) → link.read_faults ≤ link'.read_faults → link.write_faults ≤ link'.write_faults → Prints bytes out out' reported → Counts link link' out out' (print_end reported)
print_counts link link' bytes out out' (Ok done) reads writes prints = (reads, writes, prints.1)
print_counts link link' bytes out out' (Err puts.Failed) reads writes prints = inr prints.1
print_counts link link' bytes out out' (Err puts.OutOfMemory) reads writes prints = tt

prints_counts : (link link' : LinkView) (bytes : List ℕ) (kept : Result (Unit {0}) PutFault) (out out' : OutView) (end : Result (Unit {0}) ClientStop) → link.read_faults ≤ link'.read_faults → link.write_faults ≤ link'.write_faults → PrintsIf bytes kept out out' end → Counts link link' out out' end
prints_counts link link' bytes (Err fault) out out' end reads writes (end_is, same) = ends link link' out out' end (Err (stops.Keep fault)) end_is tt
prints_counts link link' bytes (Ok done) out out' end reads writes (reported, prints, end_is) =
    ends link link' out out' end (print_end reported) end_is (print_counts link link' bytes out out' reported reads writes prints)

goes_counts : (link link' : LinkView) (client : ClientState) (judged : Result Accepted ClientFault) (store : StoreView) (out : OutView) (client' : ClientState) (store' : StoreView) (out' : OutView) (end : Result (Unit {0}) ClientStop) → link.read_faults ≤ link'.read_faults → link.write_faults ≤ link'.write_faults → GoesBy client judged store out client' store' out' end → Counts link link' out out' end
goes_counts link link' client (Err fault) store out client' store' out' end reads writes leaves = ends link link' out out' end (Err (stops.Refused fault)) leaves.end_is tt
goes_counts link link' client (Ok taken) store out client' store' out' end reads writes takes = prints_counts link link' (printed taken.lines) takes.kept out out' end reads writes takes.prints

given_counts : (link link' : LinkView) (out : OutView) (stop : CallStop) (kept : Result (Unit {0}) PutFault) → CallCounts link link' (Err stop) → Counts link link' out out (Err (given_up stop kept))
given_counts link link' out stop (Ok done) counts = stop_counts link link' out stop counts
given_counts link link' out stop (Err fault) counts = tt

drops_counts : (link link' : LinkView) (bad : Bool) (client : ClientState) (stop : CallStop) (store : StoreView) (out : OutView) (client' : ClientState) (store' : StoreView) (out' : OutView) (end : Result (Unit {0}) ClientStop) → CallCounts link link' (Err stop) → Drops bad client stop store out client' store' out' end → Counts link link' out out' end
drops_counts link link' true client stop store out client' store' out' end counts gives =
    same_out link link' out out' end gives.out_is
    (ends link link' out out end (Err (given_up stop gives.gives_up.kept)) (gives.end_is ∙ ap (λ (s : ClientStop). Err s) gives.gives_up.stop_is)
    (given_counts link link' out stop gives.gives_up.kept counts))
drops_counts link link' false client stop store out client' store' out' end counts leaves =
    same_out link link' out out' end leaves.out_is (ends link link' out out end (Err (stops.Call stop)) leaves.end_is (stop_counts link link' out stop counts))

follows_counts : (link link' : LinkView) (client : ClientState) (got : Result ReplyFile CallStop) (store : StoreView) (out : OutView) (client' : ClientState) (store' : StoreView) (out' : OutView) (end : Result (Unit {0}) ClientStop) → CallCounts link link' got → Follows client got store out client' store' out' end → Counts link link' out out' end
follows_counts link link' client (Ok reply) store out client' store' out' end (reads, writes) (judged, gives, goes) = goes_counts link link' client judged store out client' store' out' end reads writes goes
follows_counts link link' client (Err stop) store out client' store' out' end counts drops = drops_counts link link' (is_bad_request stop) client stop store out client' store' out' end counts drops

asked_counts : (pass : List ℕ) (outstanding : Option Outstanding) (ahead ahead' : List ℕ) (link link' : LinkView) (got : Result ReplyFile CallStop) → Calls pass outstanding ahead link ahead' link' got → CallCounts link link' got
asked_counts pass None ahead ahead' link link' got asked = absurd asked
asked_counts pass (Some kept) ahead ahead' link link' got asked = call_counts (request_bytes pass kept.file kept.at) ahead ahead' link link' got asked

settles_counts : (pass : List ℕ) (client : ClientState) (ahead : List ℕ) (link : LinkView) (store : StoreView) (out : OutView) (client' : ClientState) (ahead' : List ℕ) (link' : LinkView) (store' : StoreView) (out' : OutView) (end : Result (Unit {0}) ClientStop) → SendsOutstanding pass client ahead link store out client' ahead' link' store' out' end → Counts link link' out out' end
settles_counts pass client ahead link store out client' ahead' link' store' out' end settles =
    follows_counts link link' client settles.got store out client' store' out' end
    (asked_counts pass client.outstanding ahead ahead' link link' settles.got settles.calls) settles.follows

resumes_counts : (pass : List ℕ) (outstanding : Option Outstanding) (client : ClientState) (link : LinkView) (store : StoreView) (out : OutView) (client' : ClientState) (ahead' : List ℕ) (link' : LinkView) (store' : StoreView) (out' : OutView) (end : Result (Unit {0}) ClientStop) → Resumes pass outstanding client link store out client' ahead' link' store' out' end → Counts link link' out out' end
resumes_counts pass None client link store out client' ahead' link' store' out' end (end_is, client_is, ahead_is, link_is, store_is, out_is) =
    same_link link link' out out' end link_is (same_out link link out out' end out_is (ends link link out out end (Ok tt) end_is (none_fell link out tt)))
resumes_counts pass (Some kept) client link store out client' ahead' link' store' out' end settles = settles_counts pass client [] link store out client' ahead' link' store' out' end settles

kept_counts : (link : LinkView) (out : OutView) (kept : Result (Unit {0}) PutFault) → Counts link link out out (keep_end kept)
kept_counts link out (Ok done) = none_fell link out done
kept_counts link out (Err fault) = tt

made_counts : (link : LinkView) (out : OutView) (judged : Result ClientState ClientFault) (client : ClientState) (store : StoreView) (client' : ClientState) (store' : StoreView) (end : Result (Unit {0}) ClientStop) → KeepsMade judged client store client' store' end → Counts link link out out end
made_counts link out (Err fault) client store client' store' end (end_is, client_is, store_is) = ends link link out out end (Err (stops.Refused fault)) end_is tt
made_counts link out (Ok next) client store client' store' end (kept, client_is, saves, end_is) = ends link link out out end (keep_end kept) end_is (kept_counts link out kept)

-- ---- one after another

write_later : (start link link' : LinkView) (first out out' : OutView) → start.write_faults ≤ link.write_faults → first.faults ≤ out.faults → WriteRose link link' out out' → WriteRose start link' first out'
write_later start link link' first out out' writes prints (inl rose) = inl (from_later start.write_faults link.write_faults link'.write_faults writes rose)
write_later start link link' first out out' writes prints (inr rose) = inr (from_later first.faults out.faults out'.faults prints rose)

both_count : (start link link' : LinkView) (first out out' : OutView) (done : Unit {0}) (end : Result (Unit {0}) ClientStop) → Counts start link first out (Ok done) → Counts link link' out out' end → Counts start link' first out' end
both_count start link link' first out out' done (Ok well) (reads, writes, prints) (reads', writes', prints') = (omega (arith, reads, reads'), omega (arith, writes, writes'), omega (arith, prints, prints'))
both_count start link link' first out out' done (Err (stops.Call calls.ReadFailed)) (reads, writes, prints) rose = from_later start.read_faults link.read_faults link'.read_faults reads rose
both_count start link link' first out out' done (Err (stops.Call calls.WriteFailed)) (reads, writes, prints) rose = write_later start link link' first out out' writes prints rose
both_count start link link' first out out' done (Err (stops.Call calls.NoMemory)) before counts = tt
both_count start link link' first out out' done (Err (stops.Call calls.BadHead)) before counts = tt
both_count start link link' first out out' done (Err (stops.Call (calls.Cut count))) before counts = tt
both_count start link link' first out out' done (Err (stops.Call (calls.Http code))) before counts = tt
both_count start link link' first out out' done (Err (stops.Call (calls.BadReply at))) before counts = tt
both_count start link link' first out out' done (Err (stops.Print puts.Failed)) (reads, writes, prints) rose = write_later start link link' first out out' writes prints rose
both_count start link link' first out out' done (Err (stops.Print puts.OutOfMemory)) before counts = tt
both_count start link link' first out out' done (Err (stops.Open fault)) before counts = tt
both_count start link link' first out out' done (Err (stops.Refused fault)) before counts = tt
both_count start link link' first out out' done (Err (stops.Keep fault)) before counts = tt

-- the same of the views of all that a run is handed
abbrev RunCounts : PortsView → PortsView → Result (Unit {0}) ClientStop → Type 0
RunCounts before after end = Counts before.link after.link before.out after.out end

stopped_counts : (start before after : PortsView) (stop : ClientStop) (end : Result (Unit {0}) ClientStop) → RunCounts start before (Err stop) → end ≡ Err stop → after ≡ before → RunCounts start after end
stopped_counts start before after stop end counts end_is same =
    subst (λ (ports : PortsView). RunCounts start ports end) (sym same) (ends start.link before.link start.out before.out end (Err stop) end_is counts)

sends_counts : (start : PortsView) (pass : List ℕ) (next : ClientState) (ahead : List ℕ) (made_end : Result (Unit {0}) ClientStop) (before after : PortsView) (end : Result (Unit {0}) ClientStop) → RunCounts start before made_end → SendsIf pass next ahead made_end before after end → RunCounts start after end
sends_counts start pass next ahead (Err stop) before after end counts (end_is, same) = stopped_counts start before after stop end counts end_is same
sends_counts start pass next ahead (Ok done) before after end counts (client', ahead', shown_is, settles) =
    both_count start.link before.link after.link start.out before.out after.out done end counts
    (settles_counts pass next ahead before.link before.store before.out client' ahead' after.link after.store after.out end settles)

makes_counts : (start : PortsView) (pass : List ℕ) (wish : Wish) (later : ClientState) (ahead : List ℕ) (first : Result (Unit {0}) ClientStop) (before after : PortsView) (end : Result (Unit {0}) ClientStop) → RunCounts start before first → MakesIf pass wish later ahead first before after end → RunCounts start after end
makes_counts start pass wish later ahead (Err stop) before after end counts (end_is, same) = stopped_counts start before after stop end counts end_is same
makes_counts start pass wish later ahead (Ok done) before after end counts makes =
    sends_counts start pass makes.next ahead makes.made_end makes.between after end
    (both_count start.link before.link makes.between.link start.out before.out makes.between.out done makes.made_end counts
    (same_link before.link makes.between.link before.out makes.between.out makes.made_end makes.link_is
    (same_out before.link before.link before.out makes.between.out makes.made_end makes.out_is
    (made_counts before.link before.out makes.makes.judged later before.store makes.next makes.between.store makes.made_end makes.makes.keeps))))
    makes.sends

acts_counts : (pass : List ℕ) (wish : Wish) (client : ClientState) (before after : PortsView) (end : Result (Unit {0}) ClientStop) → Acts pass wish client before after end → RunCounts before after end
acts_counts pass wish client before after end acts =
    makes_counts before pass wish acts.later acts.ahead acts.first acts.between after end
    (resumes_counts pass client.outstanding client before.link before.store before.out acts.later acts.ahead acts.between.link acts.between.store acts.between.out acts.first acts.resumes)
    acts.makes

reports_counts : (link link' : LinkView) (judged : Result (List (List ℕ)) ClientFault) (out out' : OutView) (end : Result (Unit {0}) ClientStop) → link.read_faults ≤ link'.read_faults → link.write_faults ≤ link'.write_faults → ReportsNews judged out out' end → Counts link link' out out' end
reports_counts link link' (Err fault) out out' end reads writes (end_is, same) = ends link link' out out' end (Err (stops.Refused fault)) end_is tt
reports_counts link link' (Ok lines) out out' end reads writes (reported, prints, end_is) =
    ends link link' out out' end (print_end reported) end_is (print_counts link link' (printed lines) out out' reported reads writes prints)

judges_counts : (link link' : LinkView) (asks : List Ask) (got : Result ReplyFile CallStop) (out out' : OutView) (end : Result (Unit {0}) ClientStop) → CallCounts link link' got → JudgesNews asks got out out' end → Counts link link' out out' end
judges_counts link link' asks (Err stop) out out' end counts (end_is, same) =
    same_out link link' out out' end same (ends link link' out out end (Err (stops.Call stop)) end_is (stop_counts link link' out stop counts))
judges_counts link link' asks (Ok reply) out out' end (reads, writes) (judged, gives, reports) = reports_counts link link' judged out out' end reads writes reports

works_counts : (pass : List ℕ) (wish : Wish) (client : ClientState) (before after : PortsView) (end : Result (Unit {0}) ClientStop) → Works pass wish client before after end → RunCounts before after end
works_counts pass wishes.Show client before after end (shows, link_is, store_is, shown_is) =
    same_link before.link after.link before.out after.out end link_is
    (ends before.link before.link before.out after.out end (print_end shows.reported) shows.end_is
    (print_counts before.link before.link _ before.out after.out shows.reported (omega arith) (omega arith) shows.prints))
works_counts pass (wishes.Check account) client before after end (checks, store_is) =
    judges_counts before.link after.link (poll_of client account).asks checks.got before.out after.out end
    (call_counts (request_bytes pass (poll_of client account) checks.at) [] checks.ahead' before.link after.link checks.got checks.exchanges) checks.judges
works_counts pass (wishes.Sync account) client before after end acts = acts_counts pass _ client before after end acts
works_counts pass (wishes.Transfer info) client before after end acts = acts_counts pass _ client before after end acts
works_counts pass (wishes.Modify id to amount due) client before after end acts = acts_counts pass _ client before after end acts
works_counts pass (wishes.Cancel id) client before after end acts = acts_counts pass _ client before after end acts
works_counts pass (wishes.Repeat recur info) client before after end acts = acts_counts pass _ client before after end acts
works_counts pass (wishes.Stop id) client before after end acts = acts_counts pass _ client before after end acts
works_counts pass (wishes.Mail subject body) client before after end acts = acts_counts pass _ client before after end acts

-- ---- what is told

-- the statuses of reads and writes that failed
abbrev is_broken : Told → Bool
is_broken what = (what.status.0 == 5) || (what.status.0 == 6)

report_of_open : (fault : StoreOpenFault) → is_broken (reported_of_open fault) ≡ false
report_of_open opens.NotOurs = refl
report_of_open (opens.Bad at) = refl
report_of_open opens.Failed = refl
report_of_open opens.OutOfMemory = refl

report_of_refusal : (fault : ClientFault) → is_broken (reported_of_refusal fault) ≡ false
report_of_refusal faults.BadName = refl
report_of_refusal faults.NotMine = refl
report_of_refusal faults.OutOfMemory = refl
report_of_refusal (faults.NoRow id) = refl
report_of_refusal (faults.Signon code) = refl
report_of_refusal (faults.Shape number) = refl

report_of_save : (fault : PutFault) → is_broken (reported_of_save fault) ≡ false
report_of_save puts.Failed = refl
report_of_save puts.OutOfMemory = refl

unbroken : (what other : Told) → is_broken what ≡ false → is_broken other ≡ true → what ≡ other → ⊥
unbroken what other not is same = let both : false ≡ true = sym not ∙ (ap is_broken same ∙ is) in cc

read_reported : (before after : PortsView) (end : Result (Unit {0}) ClientStop) (note : Note) → RunCounts before after end → reported_of end ≡ reported 5 note → Rose before.link.read_faults after.link.read_faults
read_reported before after (Ok done) note counts e = absurd (statuses_differ 0 5 Plain note refl e)
read_reported before after (Err (stops.Open fault)) note counts e = absurd (unbroken (reported_of_open fault) (reported 5 note) (report_of_open fault) refl e)
read_reported before after (Err (stops.Refused fault)) note counts e = absurd (unbroken (reported_of_refusal fault) (reported 5 note) (report_of_refusal fault) refl e)
read_reported before after (Err (stops.Keep fault)) note counts e = absurd (unbroken (reported_of_save fault) (reported 5 note) (report_of_save fault) refl e)
read_reported before after (Err (stops.Print puts.Failed)) note counts e = absurd (statuses_differ 6 5 Plain note refl e)
read_reported before after (Err (stops.Print puts.OutOfMemory)) note counts e = absurd (statuses_differ 7 5 Plain note refl e)
read_reported before after (Err (stops.Call calls.ReadFailed)) note counts e = counts
read_reported before after (Err (stops.Call calls.WriteFailed)) note counts e = absurd (statuses_differ 6 5 Plain note refl e)
read_reported before after (Err (stops.Call calls.NoMemory)) note counts e = absurd (statuses_differ 7 5 Plain note refl e)
read_reported before after (Err (stops.Call calls.BadHead)) note counts e = absurd (statuses_differ 16 5 Plain note refl e)
read_reported before after (Err (stops.Call (calls.Cut count))) note counts e = absurd (statuses_differ 17 5 (Place count) note refl e)
read_reported before after (Err (stops.Call (calls.Http code))) note counts e = absurd (statuses_differ 11 5 (Place code) note refl e)
read_reported before after (Err (stops.Call (calls.BadReply at))) note counts e = absurd (statuses_differ 12 5 (Place at) note refl e)

write_reported : (before after : PortsView) (end : Result (Unit {0}) ClientStop) (note : Note) → RunCounts before after end → reported_of end ≡ reported 6 note → WriteRose before.link after.link before.out after.out
write_reported before after (Ok done) note counts e = absurd (statuses_differ 0 6 Plain note refl e)
write_reported before after (Err (stops.Open fault)) note counts e = absurd (unbroken (reported_of_open fault) (reported 6 note) (report_of_open fault) refl e)
write_reported before after (Err (stops.Refused fault)) note counts e = absurd (unbroken (reported_of_refusal fault) (reported 6 note) (report_of_refusal fault) refl e)
write_reported before after (Err (stops.Keep fault)) note counts e = absurd (unbroken (reported_of_save fault) (reported 6 note) (report_of_save fault) refl e)
write_reported before after (Err (stops.Print puts.Failed)) note counts e = counts
write_reported before after (Err (stops.Print puts.OutOfMemory)) note counts e = absurd (statuses_differ 7 6 Plain note refl e)
write_reported before after (Err (stops.Call calls.ReadFailed)) note counts e = absurd (statuses_differ 5 6 Plain note refl e)
write_reported before after (Err (stops.Call calls.WriteFailed)) note counts e = counts
write_reported before after (Err (stops.Call calls.NoMemory)) note counts e = absurd (statuses_differ 7 6 Plain note refl e)
write_reported before after (Err (stops.Call calls.BadHead)) note counts e = absurd (statuses_differ 16 6 Plain note refl e)
write_reported before after (Err (stops.Call (calls.Cut count))) note counts e = absurd (statuses_differ 17 6 (Place count) note refl e)
write_reported before after (Err (stops.Call (calls.Http code))) note counts e = absurd (statuses_differ 11 6 (Place code) note refl e)
write_reported before after (Err (stops.Call (calls.BadReply at))) note counts e = absurd (statuses_differ 12 6 (Place at) note refl e)

-- ---- whole runs

-- Opening uses neither the link nor the output.
found_counts : (order : Order) (before between after : PortsView) (end : Result (Unit {0}) ClientStop) (found : Result ClientState StoreOpenFault)
    → between.link ≡ before.link → between.out ≡ before.out → WorksIf order found between after end → RunCounts before after end
found_counts order before between after end (Ok client) link_is out_is works =
    subst (λ (link : LinkView). Counts link after.link before.out after.out end) link_is
    (subst (λ (out : OutView). Counts between.link after.link out after.out end) out_is (works_counts order.pass order.wish client between after end works))
found_counts order before between after end (Err fault) link_is out_is (end_is, same) =
    ends before.link after.link before.out after.out end (Err (stops.Open fault)) end_is tt

pub only_reads : OnlyBrokenReads
only_reads arguments before after what note (inl unordered) is = absurd (statuses_differ 2 5 Plain note refl (sym unordered.reported_is ∙ is))
only_reads arguments before after what note (inr (inl run)) is =
    read_reported before after run.end note
    (found_counts run.order before run.runs.between after run.end run.runs.found run.runs.link_is run.runs.out_is run.runs.works) (sym run.reported_is ∙ is)
only_reads arguments before after what note (inr (inr unread)) is = absurd (statuses_differ 7 5 Plain note refl (sym unread.reported_is ∙ is))

pub only_writes : OnlyBrokenWrites
only_writes arguments before after what note (inl unordered) is = absurd (statuses_differ 2 6 Plain note refl (sym unordered.reported_is ∙ is))
only_writes arguments before after what note (inr (inl run)) is =
    write_reported before after run.end note
    (found_counts run.order before run.runs.between after run.end run.runs.found run.runs.link_is run.runs.out_is run.runs.works) (sym run.reported_is ∙ is)
only_writes arguments before after what note (inr (inr unread)) is = absurd (statuses_differ 7 6 Plain note refl (sym unread.reported_is ∙ is))
