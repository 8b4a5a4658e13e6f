-- Replies at the start of the bytes that have come.
use Rattle.std.proofs.Common.{◌≡◌, ℕ, ◌-◌, List, ◌++◌, take, drop, Option, None, Some, Ok, Err, inl, inr, refl, sym, ap, subst, ◌∙◌, append_assoc}
use Rattle.std.proofs.lemmas.List.{take-append-drop}
use Rattle.std.specs.Io.KnownBytes.{Keeps, Consumes, prepend_known}
use Rattle.ofx_types.specs.FileForm.{SpellsReply, IsReplyFaultOf}
use Rattle.ofx_types.specs.declared.fault.FileFault.{FileFault}
use Rattle.ofx_types.specs.declared.fault.FileFault.TheVariants as files
use Rattle.ofx_types.specs.declared.reply.ReplyFile.{ReplyFile}
use Rattle.ofx_file.specs.Outcome.{IsRefusal}
use Rattle.http_link.specs.Responses.{HoldsReply}
use Rattle.http_link.specs.declared.response.Response.{Response}
use Rattle.http_link.specs.declared.response.CallFault.TheVariants as links
use Rattle.client_run.specs.Views.{LinkView}
use Rattle.client_run.specs.Exchange.{IsReply, BeginsWith, BringsNothing, ReadsBody, IsNoReplyAt}
use Rattle.client_run.specs.Stopping.{body_stop}
use Rattle.client_run.specs.declared.stop.CallStop.{CallStop}
use Rattle.client_run.specs.declared.stop.CallStop.TheVariants as calls

-- The first bytes are used up.
pub prefix_used : (before left : Option (List ℕ)) (bytes : List ℕ) (size : ℕ) → Keeps before (prepend_known bytes left)
    → Consumes before (prepend_known (drop size bytes) left) (take size bytes)
prefix_used None left bytes size kept = tt
prefix_used (Some xs) None bytes size kept = kept
prefix_used (Some xs) (Some ys) bytes size kept =
    sym kept ∙ (ap (λ (l : List ℕ). l ++ ys) (sym (take-append-drop size bytes)) ∙ append_assoc (take size bytes) (drop size bytes) ys)

-- the body of the reply that the bytes hold
abbrev pub body_held : List ℕ → Response → List ℕ
body_held bytes answer = take (answer.size - answer.head) (drop answer.head bytes)

-- A reply that the bytes hold is a whole one at their start.
pub reply_held : (bytes : List ℕ) (answer : Response) (code : ℕ) → HoldsReply bytes answer → answer.code ≡ code
    → IsReply (take answer.size bytes) code (body_held bytes answer)
reply_held bytes answer code holds code_is = record { head = holds.head; whole = holds.whole; code_is = sym holds.code_is ∙ code_is }

reply_begins : (bytes : List ℕ) (answer : Response) (code : ℕ) → HoldsReply bytes answer → answer.code ≡ code
    → BeginsWith bytes code (body_held bytes answer)
reply_begins bytes answer code holds code_is = record { size = answer.size; is_reply = reply_held bytes answer code holds code_is }

-- Its code isn't 200.
pub body_unfound : (bytes : List ℕ) (answer : Response) → HoldsReply bytes answer → (answer.code ≡ 200 → ⊥)
    → ReadsBody bytes answer (Err (calls.Http answer.code))
body_unfound bytes answer holds other = (other, (body_held bytes answer, reply_begins bytes answer answer.code holds refl))

-- Its body spells a reply file.
pub body_spelled : (bytes : List ℕ) (answer : Response) (reply : ReplyFile) → HoldsReply bytes answer → answer.code ≡ 200
    → SpellsReply (body_held bytes answer) reply → ReadsBody bytes answer (Ok reply)
body_spelled bytes answer reply holds found spells =
    record { body = body_held bytes answer; is_reply = reply_held bytes answer 200 holds found; spells = spells }

faulty_at : (bytes : List ℕ) (answer : Response) (at : ℕ) → HoldsReply bytes answer → answer.code ≡ 200
    → IsNoReplyAt (body_held bytes answer) at → ReadsBody bytes answer (Err (calls.BadReply at))
faulty_at bytes answer at holds found is = (body_held bytes answer, reply_begins bytes answer 200 holds found, is)

-- Its body spells none.
pub body_faulty : (bytes : List ℕ) (answer : Response) (fault : FileFault) → HoldsReply bytes answer → answer.code ≡ 200
    → IsRefusal IsReplyFaultOf (body_held bytes answer) fault → ReadsBody bytes answer (Err (body_stop fault))
body_faulty bytes answer (files.Header at) holds found is = faulty_at bytes answer at holds found (inl is)
body_faulty bytes answer (files.Syntax at) holds found is = faulty_at bytes answer at holds found (inr (inl is))
body_faulty bytes answer (files.Form at) holds found is = faulty_at bytes answer at holds found (inr (inr is))
body_faulty bytes answer files.OutOfMemory holds found is = tt

no_body : (bytes : List ℕ) (answer : Response) (before after : LinkView) (stop : CallStop)
    → ReadsBody bytes answer (Err stop) → BringsNothing bytes before after stop
no_body bytes answer before after calls.ReadFailed none = absurd none
no_body bytes answer before after calls.WriteFailed none = absurd none
no_body bytes answer before after calls.NoMemory none = tt
no_body bytes answer before after calls.BadHead none = absurd none
no_body bytes answer before after (calls.Cut count) none = absurd none
no_body bytes answer before after (calls.Http code) none = none
no_body bytes answer before after (calls.BadReply at) none = none

pub no_body_brings : (bytes seen : List ℕ) (answer : Response) (before after : LinkView) (stop : CallStop) → seen ≡ bytes
    → ReadsBody seen answer (Err stop) → BringsNothing bytes before after stop
no_body_brings bytes seen answer before after stop same none =
    subst (λ (came : List ℕ). BringsNothing came before after stop) same (no_body seen answer before after stop none)
