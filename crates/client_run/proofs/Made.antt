-- What a run comes to that makes a file, from its steps.
use Rattle.std.proofs.Common.{◌≡◌, ℕ, List, [], ◌∷◌, Option, Result, Ok, Err, refl}
use Rattle.ofx_ports.specs.Known.{Grows}
use Rattle.ofx_ports.specs.declared.fault.PutFault.{PutFault}
use Rattle.ofx_types.specs.declared.number.Moment.{Moment}
use Rattle.client_saved.specs.declared.state.ClientState.{ClientState}
use Rattle.client_core.specs.Making.{made}
use Rattle.client_core.specs.ReportLines.{IsRefusal}
use Rattle.client_core.specs.declared.fault.ClientFault.{ClientFault}
use Rattle.client_core.specs.declared.wish.Wish.{Wish}
use Rattle.client_run.specs.Views.{LinkView, StoreView, OutView, PortsView}
use Rattle.client_run.specs.Saves.{Saves}
use Rattle.client_run.specs.Sending.{SendsOutstanding}
use Rattle.client_run.specs.Commands.{Resumes, keep_end, Makes, Acts}
use Rattle.client_run.specs.declared.stop.ClientStop.{ClientStop}
use Rattle.client_run.specs.declared.stop.ClientStop.TheVariants as stops

-- ---- the file, and what is kept of it

pub made_none : (wish : Wish) (client client' : ClientState) (store : StoreView) (shown shown' : Option (List Moment)) (at : Moment) (fault : ClientFault)
    → Grows shown shown' (at ∷ []) → IsRefusal (made client wish at) fault → client' ≡ client
    → Makes wish client store shown client' store shown' (Err (stops.Refused fault))
made_none wish client client' store shown shown' at fault reads refused same =
    record { at = at; reads = reads; judged = Err fault; gives = refused; keeps = (refl, same, refl) }

pub made_and_kept : (wish : Wish) (client client' : ClientState) (store store' : StoreView) (shown shown' : Option (List Moment)) (at : Moment) (kept : Result (Unit {0}) PutFault)
    → Grows shown shown' (at ∷ []) → made client wish at ≡ Ok client' → Saves client' store store' kept
    → Makes wish client store shown client' store' shown' (keep_end kept)
made_and_kept wish client client' store store' shown shown' at kept reads is saves =
    record { at = at; reads = reads; judged = Ok client'; gives = is; keeps = (kept, refl, saves, refl) }

-- ---- the whole

abbrev pub ports : LinkView → StoreView → Option (List Moment) → OutView → PortsView
ports link store shown out = record { link = link; store = store; shown = shown; out = out }

-- The new one was not made.
pub acts_unmade : (pass : List ℕ) (wish : Wish) (client later next : ClientState) (ahead : List ℕ) (link link' : LinkView) (store between store' : StoreView)
    (shown shown' : Option (List Moment)) (out out' : OutView) (stop : ClientStop) → Resumes pass client.outstanding client link store out later ahead link' between out' (Ok tt)
    → Makes wish later between shown next store' shown' (Err stop)
    → Acts pass wish client (ports link store shown out) (ports link' store' shown' out') (Err stop)
acts_unmade pass wish client later next ahead link link' store between store' shown shown' out out' stop resumes makes = record {
  first = Ok tt;
  later = later;
  ahead = ahead;
  between = ports link' between shown out';
  resumes = resumes;
  shown_is = refl;
  makes = record {
    made_end = Err stop;
    next = next;
    between = ports link' store' shown' out';
    makes = makes;
    link_is = refl;
    out_is = refl;
    sends = (refl, refl);
  };
}

-- The new one was made and sent.
pub acts_whole : (pass : List ℕ) (wish : Wish) (client later next last : ClientState) (ahead ahead' : List ℕ) (link between link' : LinkView)
    (store resumed_store made_store store' : StoreView) (shown shown' : Option (List Moment)) (out resumed_out out' : OutView) (end : Result (Unit {0}) ClientStop)
    → Resumes pass client.outstanding client link store out later ahead between resumed_store resumed_out (Ok tt)
    → Makes wish later resumed_store shown next made_store shown' (Ok tt)
    → SendsOutstanding pass next ahead between made_store resumed_out last ahead' link' store' out' end
    → Acts pass wish client (ports link store shown out) (ports link' store' shown' out') end
acts_whole pass wish client later next last ahead ahead' link between link' store resumed_store made_store store' shown shown' out resumed_out out' end resumes makes settles = record {
  first = Ok tt;
  later = later;
  ahead = ahead;
  between = ports between resumed_store shown resumed_out;
  resumes = resumes;
  shown_is = refl;
  makes = record {
    made_end = Ok tt;
    next = next;
    between = ports between made_store shown' resumed_out;
    makes = makes;
    link_is = refl;
    out_is = refl;
    sends = (last, ahead', refl, settles);
  };
}
