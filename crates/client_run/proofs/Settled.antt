-- What a reply to the outstanding file comes to, from the parts that were done for it.
use Rattle.std.proofs.Common.{◌≡◌, ℕ, List, Option, None, Some, Result, Ok, Err, refl, subst}
use Rattle.ofx_types.specs.FileForm.{SpellsReply}
use Rattle.ofx_types.specs.declared.reply.ReplyFile.{ReplyFile}
use Rattle.ofx_ports.specs.declared.fault.PutFault.{PutFault}
use Rattle.client_saved.specs.declared.state.ClientState.{ClientState}
use Rattle.client_saved.specs.declared.state.Outstanding.{Outstanding}
use Rattle.client_core.specs.Accepting.{accepted}
use Rattle.client_core.specs.ReportLines.{IsRefusal}
use Rattle.client_core.specs.declared.fault.ClientFault.{ClientFault}
use Rattle.client_run.specs.Views.{LinkView, StoreView, OutView}
use Rattle.client_run.specs.Exchange.{request_bytes}
use Rattle.client_run.specs.Lines.{printed, Prints}
use Rattle.client_run.specs.Saves.{Saves}
use Rattle.client_run.specs.Sending.{print_end, Judges, Calls}
use Rattle.client_run.specs.declared.stop.ClientStop.TheVariants as stops
use Rattle.client_run.proofs.Exchanged.{spelled_by}

-- ---- a reply that is taken

pub reply_refused : (client client' : ClientState) (reply : ReplyFile) (fault : ClientFault) (store : StoreView) (out : OutView)
    → IsRefusal (accepted client reply) fault → client' ≡ client → Judges client reply store out client' store out (Err (stops.Refused fault))
reply_refused client client' reply fault store out refused same =
    (Err fault, refused, record { end_is = refl; client_is = same; store_is = refl; out_is = refl })

pub taken_unsaved : (client client' : ClientState) (reply : ReplyFile) (lines : List (List ℕ)) (store store' : StoreView) (out : OutView) (fault : PutFault)
    → accepted client reply ≡ Ok (record { after = client'; lines = lines }) → Saves client' store store' (Err fault)
    → Judges client reply store out client' store' out (Err (stops.Keep fault))
taken_unsaved client client' reply lines store store' out fault taken saves = (
  Ok (record { after = client'; lines = lines }),
  taken,
  record { client_is = refl; kept = Err fault; saves = saves; prints = (refl, refl) },
)

pub taken_and_reported : (client client' : ClientState) (reply : ReplyFile) (lines shown : List (List ℕ)) (store store' : StoreView) (out out' : OutView) (reported : Result (Unit {0}) PutFault)
    → accepted client reply ≡ Ok (record { after = client'; lines = lines }) → Saves client' store store' (Ok tt) → shown ≡ lines
    → Prints (printed shown) out out' reported → Judges client reply store out client' store' out' (print_end reported)
taken_and_reported client client' reply lines shown store store' out out' reported taken saves same prints = (
  Ok (record { after = client'; lines = lines }),
  taken,
  record { client_is = refl; kept = Ok tt; saves = saves; prints = (reported, subst (λ (l : List (List ℕ)). Prints (printed l) out out' reported) same prints, refl) },
)

-- ---- the call

-- The reply to a call is one that bytes spell.
pub reply_spelled : (pass : List ℕ) (outstanding : Option Outstanding) (ahead ahead' : List ℕ) (link link' : LinkView) (reply : ReplyFile)
    → Calls pass outstanding ahead link ahead' link' (Ok reply) → (body : List ℕ) × SpellsReply body reply
reply_spelled pass None ahead ahead' link link' reply calls = absurd calls
reply_spelled pass (Some kept) ahead ahead' link link' reply calls = spelled_by (request_bytes pass kept.file kept.at) ahead ahead' link link' reply calls
