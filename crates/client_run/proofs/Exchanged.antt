-- One exchange, from its two halves.
use Rattle.std.proofs.Common.{◌≡◌, ℕ, ◌≤◌, List, ◌++◌, length, Option, None, Some, Result, Ok, Err, refl, sym, ap, ◌∙◌, subst, le_refl}
use Rattle.std.proofs.Math.Seq.{take-length}
use Rattle.std.proofs.KnownBytes.{Appends-kept, Keeps-trans}
use Rattle.std.specs.Io.KnownBytes.{Keeps, Consumes, Appends, prepend_known}
use Rattle.ofx_ports.specs.Faults.{Rose}
use Rattle.ofx_ports.specs.Writes.{AppendsPart}
use Rattle.ofx_types.specs.FileForm.{SpellsReply}
use Rattle.ofx_types.specs.PrintedFile.{file_text}
use Rattle.ofx_types.specs.declared.number.Moment.{Moment}
use Rattle.ofx_types.specs.declared.reply.ReplyFile.{ReplyFile}
use Rattle.ofx_types.specs.declared.request.RequestFile.{RequestFile}
use Rattle.http_link.specs.Responses.{request_of}
use Rattle.client_run.specs.Views.{LinkView}
use Rattle.client_run.specs.Exchange.{with_pass, request_bytes, BringsNothing, IsUnread, Receives, Exchanges}
use Rattle.client_run.specs.declared.stop.CallStop.{CallStop}
use Rattle.client_run.specs.declared.stop.CallStop.TheVariants as calls

-- ---- bytes that are known

ahead-kept : (ahead : List ℕ) (before after : Option (List ℕ)) → Keeps before after → Keeps (prepend_known ahead before) (prepend_known ahead after)
ahead-kept ahead None after kept = tt
ahead-kept ahead (Some xs) None kept = absurd kept
ahead-kept ahead (Some xs) (Some ys) kept = ap (λ (l : List ℕ). ahead ++ l) kept

kept-Consumes : (before between after : Option (List ℕ)) (bytes : List ℕ) → Keeps before between → Consumes between after bytes → Consumes before after bytes
kept-Consumes None between after bytes kept used = tt
kept-Consumes (Some xs) None after bytes kept used = absurd kept
kept-Consumes (Some xs) (Some ys) None bytes kept used = absurd used
kept-Consumes (Some xs) (Some ys) (Some zs) bytes kept used = sym kept ∙ used

whole_is_part : (before after : Option (List ℕ)) (bytes : List ℕ) → Appends before after bytes → AppendsPart before after bytes
whole_is_part before after bytes whole =
    record { count = length bytes; within = le_refl (length bytes); appended = subst (Appends before after) (sym (take-length bytes)) whole }

-- ---- a request that was sent

-- What is written is the request of the file.
pub request_is : (pass : List ℕ) (file : RequestFile) (at : Moment) → request_bytes pass file at ≡ request_of (file_text (with_pass pass file) at)
unfolding request_bytes
request_is pass file at = refl

-- What is sent changes nothing of what comes.
later_unread : (ahead ahead' : List ℕ) (before between after : LinkView) → Keeps before.left between.left
    → IsUnread ahead between ahead' after → IsUnread ahead before ahead' after
later_unread ahead ahead' before between after kept unread = Keeps-trans _ _ _ (ahead-kept ahead before.left between.left kept) unread

later_nothing : (bytes : List ℕ) (before between after : LinkView) (stop : CallStop) → between.read_faults ≡ before.read_faults
    → BringsNothing bytes between after stop → BringsNothing bytes before after stop
later_nothing bytes before between after calls.ReadFailed same none = (none.0, subst (λ (faults : ℕ). Rose faults after.read_faults) same none.1)
later_nothing bytes before between after calls.WriteFailed same none = absurd none
later_nothing bytes before between after calls.NoMemory same none = tt
later_nothing bytes before between after calls.BadHead same none = none
later_nothing bytes before between after (calls.Cut count) same none = none
later_nothing bytes before between after (calls.Http code) same none = none
later_nothing bytes before between after (calls.BadReply at) same none = none

later_received : (ahead ahead' : List ℕ) (before between after : LinkView) (got : Result ReplyFile CallStop) → Keeps before.left between.left
    → between.read_faults ≡ before.read_faults → Receives ahead between ahead' after got → Receives ahead before ahead' after got
later_received ahead ahead' before between after (Ok reply) kept same comes = (
  comes.0,
  comes.1,
  kept-Consumes _ _ _ comes.0 (ahead-kept ahead before.left between.left kept) comes.2,
  subst (λ (faults : ℕ). faults ≤ after.read_faults) same comes.3,
)
later_received ahead ahead' before between after (Err stop) kept same comes =
    (later_unread ahead ahead' before between after kept comes.0, later_nothing ahead' before between after stop same comes.1)

joined : (request ahead ahead' : List ℕ) (before after : LinkView) (got : Result ReplyFile CallStop) → Appends before.sent after.sent request
    → before.write_faults ≤ after.write_faults → Receives ahead before ahead' after got → Exchanges request ahead before ahead' after got
joined request ahead ahead' before after (Ok reply) sent later comes = (sent, later, comes)
joined request ahead ahead' before after (Err calls.ReadFailed) sent later comes = (sent, comes)
joined request ahead ahead' before after (Err calls.WriteFailed) sent later comes = absurd comes.1
joined request ahead ahead' before after (Err calls.NoMemory) sent later comes = (whole_is_part before.sent after.sent request sent, comes.0)
joined request ahead ahead' before after (Err calls.BadHead) sent later comes = (sent, comes)
joined request ahead ahead' before after (Err (calls.Cut count)) sent later comes = (sent, comes)
joined request ahead ahead' before after (Err (calls.Http code)) sent later comes = (sent, comes)
joined request ahead ahead' before after (Err (calls.BadReply at)) sent later comes = (sent, comes)

-- After a request that was sent comes what is received.
pub sent_and_received : (request ahead ahead' : List ℕ) (before after : LinkView) (left sent : Option (List ℕ)) (reads writes : ℕ) (got : Result ReplyFile CallStop)
    → Appends before.sent sent request × (before.write_faults ≤ writes) → Keeps before.left left → reads ≡ before.read_faults → Keeps sent after.sent
    → after.write_faults ≡ writes → Receives ahead (record { left = left; sent = sent; read_faults = reads; write_faults = writes }) ahead' after got
    → Exchanges request ahead before ahead' after got
sent_and_received request ahead ahead' before after left sent reads writes got whole unread same unwritten write_same comes =
    joined request ahead ahead' before after got (Appends-kept before.sent sent after.sent request whole.0 unwritten)
    (subst (λ (faults : ℕ). before.write_faults ≤ faults) (sym write_same) whole.1)
    (later_received ahead ahead' before (record { left = left; sent = sent; read_faults = reads; write_faults = writes }) after got unread same comes)

-- ---- a reply that came

-- Bytes that came spell the reply of an exchange.
pub spelled_by : (request ahead ahead' : List ℕ) (before after : LinkView) (reply : ReplyFile) → Exchanges request ahead before ahead' after (Ok reply)
    → (body : List ℕ) × SpellsReply body reply
spelled_by request ahead ahead' before after reply exchanged = (exchanged.2.1.body, exchanged.2.1.spells)
