-- What this bank answers to a client's file is taken in.
use Rattle.std.proofs.Common.{◌≡◌, ◌∙◌, ℕ, Bool, true, false, List, Option, None, Some, Result, Ok, Err, ◌⊎◌, inl, inr, refl, sym, ap, subst}
use Rattle.std.specs.Io.KnownBytes.{prepend_known}
use Rattle.ofx_types.specs.FileForm.{SpellsReply, OneReply, FaultsSpellNoReply}
use Rattle.ofx_types.specs.declared.fault.FileFault.TheVariants as files
use Rattle.ofx_types.specs.declared.number.Moment.{Moment}
use Rattle.ofx_types.specs.declared.number.UserId.{UserId}
use Rattle.ofx_types.specs.declared.reply.ReplyFile.{ReplyFile}
use Rattle.bank_model.specs.declared.event.State.{State}
use Rattle.bank_model.specs.declared.setup.Setup.{Setup}
use Rattle.bank_model.specs.SetupForm.{IsWithinLimits}
use Rattle.sync_laws.specs.Histories.{IsInOrder}
use Rattle.client_saved.specs.declared.state.ClientState.{ClientState}
use Rattle.client_saved.specs.declared.state.Outstanding.{Outstanding}
use Rattle.client_core.specs.Accepting.{Accepted, accepted, with_replies}
use Rattle.client_core.specs.ReportLines.{FollowsRule}
use Rattle.client_core.specs.declared.fault.ClientFault.{ClientFault}
use Rattle.client_core.specs.declared.fault.ClientFault.TheVariants as faults
use Rattle.client_laws.specs.Answers.{bank_reply}
use Rattle.client_run.specs.Complete.{IsBroken, Answers, AcceptsTheBanks}
use Rattle.client_run.specs.Exact.{IsOutcome, IsCallBroken, WholeRepliesDecide}
use Rattle.client_run.specs.Exchange.{request_bytes, IsNoReplyAt, Exchanges}
use Rattle.client_run.specs.Sending.{GoesBy, Judges, Follows, Calls, SendsOutstanding}
use Rattle.client_run.specs.Views.{LinkView, StoreView, OutView}
use Rattle.client_run.specs.declared.stop.CallStop.{CallStop}
use Rattle.client_run.specs.declared.stop.CallStop.TheVariants as calls
use Rattle.client_run.specs.declared.stop.ClientStop.{ClientStop}
use Rattle.client_run.specs.declared.stop.ClientStop.TheVariants as stops

-- A reply that the rule accepts is taken in, unless memory is refused.
abbrev IsTaken : Accepted → ClientState → Result (Unit {0}) ClientStop → Type 0
IsTaken taken client' end = (client' ≡ taken.after) ⊎ (end ≡ Err (stops.Refused faults.OutOfMemory))

goes : (client : ClientState) (taken : Accepted) (judged : Result Accepted ClientFault) (store : StoreView) (out : OutView) (client' : ClientState) (store' : StoreView) (out' : OutView) (end : Result (Unit {0}) ClientStop)
    → FollowsRule (Ok taken) judged → GoesBy client judged store out client' store' out' end → IsTaken taken client' end
goes client taken (Ok reported) store out client' store' out' end gives by =
    let same : taken ≡ reported = cc in inl (by.client_is ∙ ap (λ (a : Accepted). a.after) (sym same))
goes client taken (Err faults.OutOfMemory) store out client' store' out' end gives by = inr by.end_is
goes client taken (Err faults.BadName) store out client' store' out' end gives by = absurd cc
goes client taken (Err (faults.NoRow id)) store out client' store' out' end gives by = absurd cc
goes client taken (Err faults.NotMine) store out client' store' out' end gives by = absurd cc
goes client taken (Err (faults.Signon code)) store out client' store' out' end gives by = absurd cc
goes client taken (Err (faults.Shape number)) store out client' store' out' end gives by = absurd cc

judged : (client : ClientState) (taken : Accepted) (reply reported : ReplyFile) (store : StoreView) (out : OutView) (client' : ClientState) (store' : StoreView) (out' : OutView) (end : Result (Unit {0}) ClientStop)
    → reported ≡ reply → accepted client reply ≡ Ok taken → Judges client reported store out client' store' out' end → IsTaken taken client' end
judged client taken reply reported store out client' store' out' end same accepts (judgement, gives, by) =
    goes client taken judgement store out client' store' out' end
    (subst (λ (given : Result Accepted ClientFault). FollowsRule given judgement) (ap (accepted client) same ∙ accepts) gives) by

unspelled : FaultsSpellNoReply → (body : List ℕ) (reply : ReplyFile) (at : ℕ) → SpellsReply body reply → IsNoReplyAt body at → ⊥
unspelled never body reply at spells (inl fault) = never body reply (files.Header at) spells fault
unspelled never body reply at spells (inr (inl fault)) = never body reply (files.Syntax at) spells fault
unspelled never body reply at spells (inr (inr fault)) = never body reply (files.Form at) spells fault

widened : (taken : Accepted) (link link' : LinkView) (client' : ClientState) (end : Result (Unit {0}) ClientStop) → IsTaken taken client' end → (client' ≡ taken.after) ⊎ IsBroken link link' end
widened taken link link' client' end (inl is) = inl is
widened taken link link' client' end (inr refused) = inr (inr (inr (inr refused)))

decided : OneReply → FaultsSpellNoReply → (client : ClientState) (taken : Accepted) (reply : ReplyFile) (body : List ℕ) (link link' : LinkView) (store : StoreView) (out : OutView) (client' : ClientState) (store' : StoreView) (out' : OutView) (end : Result (Unit {0}) ClientStop) (got : Result ReplyFile CallStop)
    → SpellsReply body reply → accepted client reply ≡ Ok taken → IsOutcome 200 body got → Follows client got store out client' store' out' end → (client' ≡ taken.after) ⊎ IsBroken link link' end
decided one never client taken reply body link link' store out client' store' out' end (Ok reported) spells accepts is follows =
    widened taken link link' client' end
    (judged client taken reply reported store out client' store' out' end (one body reported reply is.1 spells) accepts follows)
decided one never client taken reply body link link' store out client' store' out' end (Err (calls.Http code)) spells accepts is follows = absurd (is.0 refl)
decided one never client taken reply body link link' store out client' store' out' end (Err (calls.BadReply at)) spells accepts is follows = absurd (unspelled never body reply at spells is.1)
decided one never client taken reply body link link' store out client' store' out' end (Err calls.ReadFailed) spells accepts is follows = absurd is
decided one never client taken reply body link link' store out client' store' out' end (Err calls.WriteFailed) spells accepts is follows = absurd is
decided one never client taken reply body link link' store out client' store' out' end (Err calls.NoMemory) spells accepts is follows = absurd is
decided one never client taken reply body link link' store out client' store' out' end (Err calls.BadHead) spells accepts is follows = absurd is
decided one never client taken reply body link link' store out client' store' out' end (Err (calls.Cut count)) spells accepts is follows = absurd is

-- a call that broke off leaves the client and says so
broke : (client : ClientState) (link link' : LinkView) (store : StoreView) (out : OutView) (client' : ClientState) (store' : StoreView) (out' : OutView) (end : Result (Unit {0}) ClientStop) (got : Result ReplyFile CallStop)
    → IsCallBroken link link' got → Follows client got store out client' store' out' end → IsBroken link link' end
broke client link link' store out client' store' out' end (Ok reply) (inl (e, rose)) follows = absurd cc
broke client link link' store out client' store' out' end (Ok reply) (inr (inl (e, rose))) follows = absurd cc
broke client link link' store out client' store' out' end (Ok reply) (inr (inr e)) follows = absurd cc
broke client link link' store out client' store' out' end (Err calls.ReadFailed) (inl (e, rose)) follows = inl (follows.end_is, rose)
broke client link link' store out client' store' out' end (Err calls.ReadFailed) (inr (inl (e, rose))) follows = absurd cc
broke client link link' store out client' store' out' end (Err calls.ReadFailed) (inr (inr e)) follows = absurd cc
broke client link link' store out client' store' out' end (Err calls.WriteFailed) (inl (e, rose)) follows = absurd cc
broke client link link' store out client' store' out' end (Err calls.WriteFailed) (inr (inl (e, rose))) follows = inr (inl (follows.end_is, rose))
broke client link link' store out client' store' out' end (Err calls.WriteFailed) (inr (inr e)) follows = absurd cc
broke client link link' store out client' store' out' end (Err calls.NoMemory) (inl (e, rose)) follows = absurd cc
broke client link link' store out client' store' out' end (Err calls.NoMemory) (inr (inl (e, rose))) follows = absurd cc
broke client link link' store out client' store' out' end (Err calls.NoMemory) (inr (inr e)) follows = inr (inr (inl follows.end_is))
broke client link link' store out client' store' out' end (Err calls.BadHead) (inl (e, rose)) follows = absurd cc
broke client link link' store out client' store' out' end (Err calls.BadHead) (inr (inl (e, rose))) follows = absurd cc
broke client link link' store out client' store' out' end (Err calls.BadHead) (inr (inr e)) follows = absurd cc
broke client link link' store out client' store' out' end (Err (calls.Cut count)) (inl (e, rose)) follows = absurd cc
broke client link link' store out client' store' out' end (Err (calls.Cut count)) (inr (inl (e, rose))) follows = absurd cc
broke client link link' store out client' store' out' end (Err (calls.Cut count)) (inr (inr e)) follows = absurd cc
broke client link link' store out client' store' out' end (Err (calls.Http code)) (inl (e, rose)) follows = absurd cc
broke client link link' store out client' store' out' end (Err (calls.Http code)) (inr (inl (e, rose))) follows = absurd cc
broke client link link' store out client' store' out' end (Err (calls.Http code)) (inr (inr e)) follows = absurd cc
broke client link link' store out client' store' out' end (Err (calls.BadReply at)) (inl (e, rose)) follows = absurd cc
broke client link link' store out client' store' out' end (Err (calls.BadReply at)) (inr (inl (e, rose))) follows = absurd cc
broke client link link' store out client' store' out' end (Err (calls.BadReply at)) (inr (inr e)) follows = absurd cc

either : OneReply → FaultsSpellNoReply → (client : ClientState) (taken : Accepted) (reply : ReplyFile) (body : List ℕ) (link link' : LinkView) (store : StoreView) (out : OutView) (client' : ClientState) (store' : StoreView) (out' : OutView) (end : Result (Unit {0}) ClientStop) (got : Result ReplyFile CallStop)
    → SpellsReply body reply → accepted client reply ≡ Ok taken → IsOutcome 200 body got ⊎ IsCallBroken link link' got → Follows client got store out client' store' out' end → (client' ≡ taken.after) ⊎ IsBroken link link' end
either one never client taken reply body link link' store out client' store' out' end got spells accepts (inl is) follows =
    decided one never client taken reply body link link' store out client' store' out' end got spells accepts is follows
either one never client taken reply body link link' store out client' store' out' end got spells accepts (inr is) follows =
    inr (broke client link link' store out client' store' out' end got is follows)

called : (pass : List ℕ) (outstanding : Option Outstanding) (kept : Outstanding) (ahead : List ℕ) (link : LinkView) (ahead' : List ℕ) (link' : LinkView) (got : Result ReplyFile CallStop)
    → outstanding ≡ Some kept → Calls pass outstanding ahead link ahead' link' got → Exchanges (request_bytes pass kept.file kept.at) ahead link ahead' link' got
called pass outstanding kept ahead link ahead' link' got same calls_it = subst (λ (o : Option Outstanding). Calls pass o ahead link ahead' link' got) same calls_it

abbrev AreAccepted : Type 0
AreAccepted = (setup : Setup) (S : State) (user : UserId) (at : Moment) (client : ClientState) (kept : Outstanding) → IsWithinLimits setup
    → IsInOrder setup S → client.outstanding ≡ Some kept
    → accepted client (bank_reply setup S user at kept.file) ≡ Ok (with_replies client kept.file (bank_reply setup S user at kept.file).replies)

pub accepts_the_banks : WholeRepliesDecide → OneReply → FaultsSpellNoReply → AreAccepted → AcceptsTheBanks
accepts_the_banks whole one never accept setup S user at pass client kept all ahead link store out client' ahead' link' store' out' end limits order waits left answers settles =
    let reply = bank_reply setup S user at kept.file in
    either one never client (with_replies client kept.file reply.replies) reply answers.body link link' store out client' store' out' end settles.got
    answers.spells (accept setup S user at client kept limits order waits)
    (whole all ahead link link' ahead' settles.got 200 answers.body
    (left, (request_bytes pass kept.file kept.at, called pass client.outstanding kept ahead link ahead' link' settles.got waits settles.calls)) answers.begins)
    settles.follows
