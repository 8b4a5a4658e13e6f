-- The answers to asks are sound.
use Rattle.std.proofs.Common.{◌≡◌, ℕ, ◌≤◌, Bool, false, List, [], ◌∷◌, map, Option, None, Some, unsigned_abs, refl, sym, ap, ◌∙◌}
use Rattle.std.specs.List.{AllByRecursion}
use Rattle.ofx_types.specs.PrintedFile.{is_mail_ask}
use Rattle.ofx_types.specs.ReplyForm.{is_mail_reply}
use Rattle.ofx_types.specs.SyncForm.{object_family, is_mail_family}
use Rattle.ofx_types.specs.declared.number.AcctId.{AcctId}
use Rattle.ofx_types.specs.declared.number.Moment.{Moment}
use Rattle.ofx_types.specs.declared.number.ObjectId.{ObjectId}
use Rattle.ofx_types.specs.declared.number.UserId.{UserId}
use Rattle.ofx_types.specs.declared.sync.ObjectName.{ObjectName}
use Rattle.ofx_types.specs.declared.sync.SyncAsk.{SyncAsk}
use Rattle.ofx_types.specs.declared.account.AcctName.{AcctName}
use Rattle.ofx_types.specs.declared.request.Period.{Period}
use Rattle.ofx_types.specs.declared.request.Ask.{Ask}
use Rattle.ofx_types.specs.declared.request.Ask.TheVariants.{Statement, One, Sync}
use Rattle.bank_model.specs.declared.setup.Setup.{Setup}
use Rattle.bank_model.specs.declared.event.State.{State}
use Rattle.bank_model.specs.SetupLookups.{own_account}
use Rattle.bank_model.specs.Ledger.{balance}
use Rattle.bank_model.specs.Deeds.{deed_answer}
use Rattle.bank_model.specs.Objects.{object_named}
use Rattle.bank_model.specs.Sync.{sync_on, sync_answer}
use Rattle.bank_model.specs.Rules.{statement_reply, ask_answer, ask_answers}
use Rattle.bank_model.specs.Sound as file
use Rattle.ofx_file.specs.Written.{IsSoundAskReply}
use Rattle.reply_laws.proofs.Values.{uid_within}
use Rattle.reply_laws.proofs.States.{reportable_ask}
use Rattle.reply_laws.proofs.Answers.{MayAsk, may_still, deed_sound}
use Rattle.reply_laws.proofs.Syncs.{sync_sound}
use Rattle.reply_laws.proofs.Statements.{statement_sound}

-- No balance is above what can be printed.
abbrev pub AreSmall : Setup → State → Type 0
AreSmall setup S = (account : AcctId) → unsigned_abs (balance setup S.entries account) ≤ 9999999999999

ask_sound : (setup : Setup) (S : State) (user : UserId) (at : Moment) (ask : Ask) → MayAsk setup S user at → AreSmall setup S → file.IsSoundAsk ask → IsSoundAskReply (ask_answer setup S user at ask).reply
unfolding ask_answer
ask_sound setup S user at (Statement trnuid name period) may small sound =
    statement_sound setup S at trnuid name period (own_account setup user name) may.within may.reportable may.moment small (uid_within trnuid sound.0.1) sound.1 sound.2
ask_sound setup S user at (One trnuid deed) may small sound = (deed_sound setup S user None at trnuid deed may sound.1 (uid_within trnuid sound.0.1)).0
ask_sound setup S user at (Sync ask) may small sound = sync_sound setup S user at ask may sound

-- What each ask keeps, and what keeps the balances small, does so for all.
pub asks_sound : (setup : Setup) (Q : State → Type 0) (S : State) (user : UserId) (at : Moment) (asks : List Ask) → ((T : State) → Q T → AreSmall setup T) → ((T : State) (ask : Ask) → Q T → file.IsSoundAsk ask → Q (ask_answer setup T user at ask).after) → MayAsk setup S user at → Q S → AllByRecursion file.IsSoundAsk asks → AllByRecursion IsSoundAskReply (ask_answers setup S user at asks).replies
unfolding ask_answers
asks_sound setup Q S user at [] small keeps may holds sound = tt
asks_sound setup Q S user at (ask ∷ asks) small keeps may holds sound =
    let next : State = (ask_answer setup S user at ask).after in (
      ask_sound setup S user at ask may (small S holds) sound.0,
      asks_sound setup Q next user at asks small keeps (may_still setup S next user at may (reportable_ask setup S user at ask may sound.0)) (keeps S ask holds sound.0) sound.1,
    )

-- ---- replies stand in the message sets of their asks

statement_alike : (setup : Setup) (S : State) (at : Moment) (trnuid : List ℕ) (name : AcctName) (period : Option Period) (found : Option AcctId) → false ≡ is_mail_reply (statement_reply setup S at trnuid name period found)
statement_alike setup S at trnuid name period None = refl
statement_alike setup S at trnuid name period (Some account) = refl

sync_object : (setup : Setup) (S : State) (user : UserId) (at : Moment) (ask : SyncAsk) (found : Option ObjectId) → (sync_on setup S user at ask found).reply.object ≡ ask.object
unfolding sync_on
sync_object setup S user at ask None = refl
sync_object setup S user at ask (Some object) = refl

ask_alike : (setup : Setup) (S : State) (user : UserId) (at : Moment) (ask : Ask) → is_mail_ask ask ≡ is_mail_reply (ask_answer setup S user at ask).reply
unfolding ask_answer deed_answer sync_answer
ask_alike setup S user at (Statement trnuid name period) = statement_alike setup S at trnuid name period (own_account setup user name)
ask_alike setup S user at (One trnuid deed) = refl
ask_alike setup S user at (Sync ask) = ap (λ (name : ObjectName). is_mail_family (object_family name)) (sym (sync_object setup S user at ask (object_named setup user ask.object)))

pub asks_alike : (setup : Setup) (S : State) (user : UserId) (at : Moment) (asks : List Ask) → map is_mail_ask asks ≡ map is_mail_reply (ask_answers setup S user at asks).replies
unfolding ask_answers
asks_alike setup S user at [] = refl
asks_alike setup S user at (ask ∷ asks) =
    let next : State = (ask_answer setup S user at ask).after in
    ap (λ (b : Bool). b ∷ map is_mail_ask asks) (ask_alike setup S user at ask)
    ∙ ap (λ (l : List Bool). is_mail_reply (ask_answer setup S user at ask).reply ∷ l) (asks_alike setup next user at asks)
