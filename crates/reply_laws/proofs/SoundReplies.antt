-- The bank's replies are sound.
use Rattle.std.proofs.Common.{◌≡◌, ℕ, ◌<◌, ◌≤◌, inl, inr, Bool, true, List, [], ◌∷◌, length, map, Option, None, Some, refl, ap, ◌∙◌, arith}
use Rattle.std.specs.List.{AllByRecursion, list_all, flat_map}
use Rattle.std.proofs.lemmas.Bool.{and_parts}
use Rattle.std.proofs.lemmas.Int.{ints}
use Rattle.ofx_types.specs.Calendar.{IsMoment}
use Rattle.ofx_types.specs.HeaderForm.{is_version}
use Rattle.ofx_types.specs.PrintedFile.{is_mail_ask}
use Rattle.ofx_types.specs.ReplyForm.{is_mail_reply, reply_text}
use Rattle.ofx_types.specs.SyncForm.{object_family, is_mail_family}
use Rattle.ofx_types.specs.declared.number.Moment.{Moment}
use Rattle.ofx_types.specs.declared.number.ObjectId.{ObjectId}
use Rattle.ofx_types.specs.declared.number.UserId.{UserId}
use Rattle.ofx_types.specs.declared.sync.ObjectName.{ObjectName}
use Rattle.ofx_types.specs.declared.sync.SyncAsk.{SyncAsk}
use Rattle.ofx_types.specs.declared.request.Ask.{Ask}
use Rattle.ofx_types.specs.declared.request.Ask.TheVariants.{Statement, One, Sync}
use Rattle.ofx_types.specs.declared.request.RequestFile.{RequestFile}
use Rattle.ofx_types.specs.declared.reply.AskReply.{AskReply}
use Rattle.ofx_types.specs.declared.reply.AskReply.TheVariants as replies
use Rattle.bank_model.specs.declared.setup.Setup.{Setup}
use Rattle.bank_model.specs.declared.event.State.{State}
use Rattle.bank_model.specs.declared.event.Event.TheVariants.{File}
use Rattle.bank_model.specs.SetupForm.{IsWithinLimits}
use Rattle.bank_model.specs.Objects.{object_named, newest}
use Rattle.bank_model.specs.Polls.{is_poll_ask, is_unnamed, are_polls, is_poll, reported_token, newest_if_any, poll_answer, poll_reply}
use Rattle.bank_model.specs.Rules.{raised, ask_answers, reply_file, kept_for, new_outcome, outcome_or_kept, file_outcome, answer_to, denial}
use Rattle.bank_model.specs.Sound as file
use Rattle.bank_invariants.specs.SoundStates.{IsSoundState}
use Rattle.bank_invariants.proofs.StateLemmas.{IsSoundState-raised, IsSoundState-ask}
use Rattle.bank_invariants.proofs.MoneyLemmas.{balance-most}
use Rattle.msg_sync.specs.SoundSyncs.{IsSoundSyncReply}
use Rattle.ofx_file.specs.Written.{IsSoundAskReply, IsSoundReplyFile}
use Rattle.reply_laws.specs.Reportable.{IsReportable}
use Rattle.reply_laws.specs.Replies.{new_reply}
use Rattle.reply_laws.proofs.Values.{object_sound, zero_within}
use Rattle.reply_laws.proofs.Arguments.{token_within}
use Rattle.reply_laws.proofs.Last.{last_alike}
use Rattle.reply_laws.proofs.Answers.{MayAsk}
use Rattle.reply_laws.proofs.Syncs.{token_few}
use Rattle.reply_laws.proofs.Asks.{AreSmall, asks_sound, asks_alike}
use Rattle.reply_laws.proofs.States.{reportable_raised}
use Rattle.bank_model.proofs.Lists.{IsLast}

pub version_is : (version : ℕ) → file.IsVersion version → is_version version ≡ true
version_is version (inl is) = ap is_version is
version_is version (inr (inl is)) = ap is_version is
version_is version (inr (inr (inl is))) = ap is_version is
version_is version (inr (inr (inr is))) = ap is_version is

-- A reply to a sound file: its answers are sound, and those to mail stand last.
reply_with : (code : ℕ) (at : Moment) (sent : RequestFile) (answers : List AskReply) → code ≤ 65535 → IsMoment at.0 → file.IsSound sent → IsLast is_mail_reply answers → AllByRecursion IsSoundAskReply answers → IsSoundReplyFile (record { version = sent.version; newer = sent.newer; signon = code; moment = at; replies = answers })
reply_with code at sent answers short moment sound last all = record {
  version = version_is sent.version sound.version;
  newer = sound.newer;
  signon = record { is_code = short; moment = moment };
  bank_first = last;
  replies = all;
}

-- ---- the reply to a file that is answered anew

small_balances : (setup : Setup) → IsWithinLimits setup → (T : State) → IsSoundState setup T → AreSmall setup T
small_balances setup within T sound account =
    let most = balance-most setup T account within sound in
    let least = sound.covered account in
    omega (arith, ints)

pub new_sound : (setup : Setup) (S : State) (user : UserId) (at : Moment) (sent : RequestFile) → IsWithinLimits setup → IsSoundState setup S → IsReportable setup S → IsMoment at.0 → user.0 < length setup.users → file.IsSound sent → IsSoundReplyFile (new_reply setup S user at sent)
unfolding reply_file
new_sound setup S user at sent within present reportable moment known sound =
    let now : State = raised S at in
    let may : MayAsk setup now user at = record { within = within; reportable = reportable_raised setup S at reportable moment; moment = moment; known = known } in
    reply_with 0 at sent (ask_answers setup now user at sent.asks).replies (omega arith) moment sound
    (last_alike is_mail_ask is_mail_reply sent.asks (ask_answers setup now user at sent.asks).replies (asks_alike setup now user at sent.asks) sound.bank_first)
    (asks_sound setup (IsSoundState setup) now user at sent.asks (small_balances setup within)
    (λ T ask holds known_ask. IsSoundState-ask setup T user at ask within holds moment known_ask) may (IsSoundState-raised setup S at present moment) sound.asks)

pub new_answer : (setup : Setup) (S : State) (user : UserId) (at : Moment) (sent : RequestFile) → kept_for (raised S at) user sent.newer ≡ None → answer_to setup S at (File user sent) ≡ reply_text (new_reply setup S user at sent)
unfolding file_outcome new_outcome
new_answer setup S user at sent none = ap (λ (kept : Option (List ℕ)). (outcome_or_kept setup (raised S at) user at sent kept).reply) none

-- ---- the reply to a file whose signon failed

pub denial_sound : (sent : RequestFile) (at : Moment) → IsMoment at.0 → file.IsSound sent → IsSoundReplyFile (denial sent at)
unfolding denial
denial_sound sent at moment sound = reply_with 15500 at sent [] (omega arith) moment sound refl tt

-- ---- the reply to a poll

token_sound : (setup : Setup) (S : State) (ask : SyncAsk) (found : Option ObjectId) → IsWithinLimits setup → IsReportable setup S → file.IsSoundSync ask → IsSoundSyncReply (reported_token ask (newest_if_any S found))
token_sound setup S ask None within reportable sound = record { object = object_sound ask.object sound.object; token = zero_within 64 (omega arith); replies = tt }
token_sound setup S ask (Some found) within reportable sound = record {
  object = object_sound ask.object sound.object;
  token = token_within (newest found S.entries) (token_few setup S found within reportable);
  replies = tt;
}

polled_sound : (setup : Setup) (S : State) (user : UserId) (asks : List Ask) → IsWithinLimits setup → IsReportable setup S → AllByRecursion file.IsSoundAsk asks → AllByRecursion IsSoundAskReply (flat_map (poll_answer setup S user) asks)
polled_sound setup S user [] within reportable sound = tt
polled_sound setup S user (Statement trnuid account period ∷ asks) within reportable sound = polled_sound setup S user asks within reportable sound.1
polled_sound setup S user (One trnuid deed ∷ asks) within reportable sound = polled_sound setup S user asks within reportable sound.1
polled_sound setup S user (Sync ask ∷ asks) within reportable sound =
    (token_sound setup S ask (object_named setup user ask.object) within reportable sound.0, polled_sound setup S user asks within reportable sound.1)

token_object : (ask : SyncAsk) (token : Option ℕ) → ask.object ≡ (reported_token ask token).object
token_object ask None = refl
token_object ask (Some token) = refl

polls_alike : (setup : Setup) (S : State) (user : UserId) (asks : List Ask) → list_all is_poll_ask asks ≡ true → map is_mail_ask asks ≡ map is_mail_reply (flat_map (poll_answer setup S user) asks)
polls_alike setup S user [] all = refl
polls_alike setup S user (Statement trnuid account period ∷ asks) all = absurd cc
polls_alike setup S user (One trnuid deed ∷ asks) all = absurd cc
polls_alike setup S user (Sync ask ∷ asks) all =
    let rest = (and_parts (is_poll_ask (Sync ask)) (list_all is_poll_ask asks) all).1 in
    ap (λ (name : ObjectName). is_mail_family (object_family name) ∷ map is_mail_ask asks) (token_object ask (newest_if_any S (object_named setup user ask.object)))
    ∙ ap (λ (l : List Bool). is_mail_reply (replies.Sync (reported_token ask (newest_if_any S (object_named setup user ask.object)))) ∷ l) (polls_alike setup S user asks rest)

all_polls : (sent : RequestFile) → is_poll sent ≡ true → list_all is_poll_ask sent.asks ≡ true
unfolding is_poll
all_polls sent poll =
    let both = and_parts (is_unnamed sent) (are_polls sent.asks) poll in
    (and_parts _ (list_all is_poll_ask sent.asks) both.1).1

pub poll_sound : (setup : Setup) (S : State) (user : UserId) (at : Moment) (sent : RequestFile) → IsWithinLimits setup → IsReportable setup S → IsMoment at.0 → file.IsSound sent → is_poll sent ≡ true → IsSoundReplyFile (poll_reply setup S user at sent)
unfolding poll_reply
poll_sound setup S user at sent within reportable moment sound poll =
    reply_with 0 at sent (flat_map (poll_answer setup S user) sent.asks) (omega arith) moment sound
    (last_alike is_mail_ask is_mail_reply sent.asks (flat_map (poll_answer setup S user) sent.asks) (polls_alike setup S user sent.asks (all_polls sent poll)) sound.bank_first)
    (polled_sound setup S user sent.asks within reportable sound.asks)
